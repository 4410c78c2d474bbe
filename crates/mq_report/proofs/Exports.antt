-- The laws on what is written that the crates above cite. They cite no other file of these proofs.
pub use Rattle.mq_report.proofs.HeaderLaws.{header-stays, named_by, named_whole, unnamed_part}
pub use Rattle.mq_report.proofs.LineLaws.{all_written}
pub use Rattle.mq_report.proofs.OneLineLaws.{all_both, both, before, digit_fits, decimal_fits}
