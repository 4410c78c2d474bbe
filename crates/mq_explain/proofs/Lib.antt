pub mod ExplainingLemmas
