-- The laws on properties and their lists that the crates above cite. They cite no other file of these proofs.
pub use Rattle.mq_props.proofs.Broken.{breaks_list}
pub use Rattle.mq_props.proofs.Exact.{items_of-body}
pub use Rattle.mq_props.proofs.Lists.{Listing, counted_ok, empty_read, list_breaks, list_found, list_only}
pub use Rattle.mq_props.proofs.Sizes.{binary_within, byte_within, taken_by, text_within, two_bytes_within, varint_within}
pub use Rattle.mq_props.proofs.Steps.{bind_ok, done_is, from_wire_ok}
pub use Rattle.mq_props.proofs.Within.{list_err_within}
