mod AskingLaws
mod CallingLaws
mod GivingLaws
mod LivingLaws
mod LooseValues
mod PointerValues
mod ShownLaws
mod TakingLaws
