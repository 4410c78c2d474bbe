-- The laws on fields that the crates above cite. They cite no other file of these proofs.
pub use Rattle.mq_wire.proofs.Bytes.{AreBytes-after, AreBytes-drop, AreBytes-take}
pub use Rattle.mq_wire.proofs.Exact.{binary_exact, byte_exact, done_is, four_bytes_exact, pair_exact, text_exact, two_bytes_exact}
pub use Rattle.mq_wire.proofs.MisspelledLaws.{binary_misspelled, byte_misspelled, four_bytes_misspelled, pair_misspelled, text_misspelled, two_bytes_misspelled, varint_misspelled}
pub use Rattle.mq_wire.proofs.Placed.{placed_err, placed_ok}
pub use Rattle.mq_wire.proofs.PlainLaws.{both}
pub use Rattle.mq_wire.proofs.Refusals.{varint_refused}
pub use Rattle.mq_wire.proofs.RoomLaws.{counted_room, number_room, pair_room, text_room}
pub use Rattle.mq_wire.proofs.Varint.{varint_exact}
