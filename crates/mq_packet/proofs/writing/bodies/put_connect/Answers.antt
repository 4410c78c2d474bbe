-- What a valid CONNECT says of its fields.
use Rattle.mq_packet.proofs.GrowingLaws.{connect_texts}
use Rattle.mq_packet.proofs.writing.bodies.put_connect.Goals as goal

pub put_connect_payload-requires-clause-client_identifier : goal.put_connect_payload-requires-clause-client_identifier
put_connect_payload-requires-clause-client_identifier c = (connect_texts _ c.requires).client_identifier

pub put_connect_payload-requires-clause-will : goal.put_connect_payload-requires-clause-will
put_connect_payload-requires-clause-will c = (connect_texts _ c.requires).will

pub put_connect_payload-requires-clause-user_name : goal.put_connect_payload-requires-clause-user_name
put_connect_payload-requires-clause-user_name c = (connect_texts _ c.requires).user_name

pub put_connect_payload-requires-clause-password : goal.put_connect_payload-requires-clause-password
put_connect_payload-requires-clause-password c = (connect_texts _ c.requires).password
