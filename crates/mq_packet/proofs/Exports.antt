-- The laws on packets and streams of them that the crates above cite. They cite no other file of these proofs.
pub use Rattle.mq_packet.proofs.BodyLaws.{size_of_frame}
pub use Rattle.mq_packet.proofs.HeaderLaws.{ends_header, short_few}
pub use Rattle.mq_packet.proofs.StreamLaws.{frame_bounds, frame_from_header, frame_stays, frame_stood, header_few, header_from_frame, header_lost, is_lost_stays, lost_header, lost_no_frame, lost_stays, no_frame_yet, short_before, short_no_frame, size_above, whole_stays}
