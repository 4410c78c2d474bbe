-- How many bytes the parts of a packet's body have together.
use Rattle.std.proofs.Common.{◌≡◌, ℕ, ◌+◌, Bool, List, [], ◌∷◌, ◌++◌, length, arith, length-append}
use Rattle.std.specs.Prelude.{sum}
use Rattle.mq_wire.specs.Spellings.{two_bytes_spelling, text_spelling, binary_spelling, varint_spelling}
use Rattle.mq_props.specs.Values.{Property, body as properties_spelling}
use Rattle.mq_packet.specs.Entries.{AskedFilter, WillFields, ConnectFields, PublishFields}
use Rattle.mq_packet.specs.Asking.{filters_spelling}
use Rattle.mq_packet.specs.Canonical.{list_spelling, spelling_if, will_spelling, reason_spelling, connect_body, connack_body, publish_body, acknowledgement_body, request_body, answer_body}

pub list_length : (items : List Property) → length (list_spelling items) ≡ length (varint_spelling (length (properties_spelling items))) + length (properties_spelling items)
list_length items = length-append (varint_spelling (length (properties_spelling items))) (properties_spelling items)

pub will_length : (will : WillFields) → length (will_spelling will) ≡ length (list_spelling will.properties.items) + length (text_spelling will.topic) + length (binary_spelling will.payload)
will_length will =
    (let trailing : length (text_spelling will.topic ++ binary_spelling will.payload) ≡ length (text_spelling will.topic) + length (binary_spelling will.payload) = length-append (text_spelling will.topic) (binary_spelling will.payload) in
    let whole : length (list_spelling will.properties.items ++ (text_spelling will.topic ++ binary_spelling will.payload)) ≡ length (list_spelling will.properties.items) + length (text_spelling will.topic ++ binary_spelling will.payload) = length-append (list_spelling will.properties.items) (text_spelling will.topic ++ binary_spelling will.payload) in
    omega arith)

-- The bodies by their parts.
pub connect_length : (fields : ConnectFields) (list client a b c user_name password : ℕ)
    → list ≡ length (list_spelling fields.properties.items) → client ≡ length (text_spelling fields.client_identifier)
    → a + b + c ≡ length (spelling_if will_spelling fields.will)
    → user_name ≡ length (spelling_if text_spelling fields.user_name) → password ≡ length (spelling_if binary_spelling fields.password)
    → sum (10 ∷ list ∷ client ∷ a ∷ b ∷ c ∷ user_name ∷ password ∷ []) ≡ length (connect_body fields)
unfolding connect_body
connect_length fields list client a b c user_name password is_list is_client is_will is_user is_password =
    (let e5 : length (spelling_if text_spelling fields.user_name ++ spelling_if binary_spelling fields.password) ≡ length (spelling_if text_spelling fields.user_name) + length (spelling_if binary_spelling fields.password) = length-append (spelling_if text_spelling fields.user_name) (spelling_if binary_spelling fields.password) in
    let e4 : length (spelling_if will_spelling fields.will ++ (spelling_if text_spelling fields.user_name ++ spelling_if binary_spelling fields.password)) ≡ length (spelling_if will_spelling fields.will) + length (spelling_if text_spelling fields.user_name ++ spelling_if binary_spelling fields.password) = length-append (spelling_if will_spelling fields.will) _ in
    let e3 : length (text_spelling fields.client_identifier ++ (spelling_if will_spelling fields.will ++ (spelling_if text_spelling fields.user_name ++ spelling_if binary_spelling fields.password))) ≡ length (text_spelling fields.client_identifier) + length (spelling_if will_spelling fields.will ++ (spelling_if text_spelling fields.user_name ++ spelling_if binary_spelling fields.password)) = length-append (text_spelling fields.client_identifier) _ in
    let e2 : length (list_spelling fields.properties.items ++ (text_spelling fields.client_identifier ++ (spelling_if will_spelling fields.will ++ (spelling_if text_spelling fields.user_name ++ spelling_if binary_spelling fields.password)))) ≡ length (list_spelling fields.properties.items) + length (text_spelling fields.client_identifier ++ (spelling_if will_spelling fields.will ++ (spelling_if text_spelling fields.user_name ++ spelling_if binary_spelling fields.password))) = length-append (list_spelling fields.properties.items) _ in
    omega arith)

pub connack_length : (session_present : Bool) (code : ℕ) (items : List Property) (list : ℕ) → list ≡ length (list_spelling items) → sum (2 ∷ list ∷ []) ≡ length (connack_body session_present code items)
unfolding connack_body
connack_length session_present code items list is_list = omega arith

pub publish_length : (fields : PublishFields) (topic identifier list payload : ℕ)
    → topic ≡ length (text_spelling fields.topic) → identifier ≡ length (spelling_if two_bytes_spelling fields.identifier) → list ≡ length (list_spelling fields.properties.items) → payload ≡ length fields.payload
    → sum (topic ∷ identifier ∷ list ∷ payload ∷ []) ≡ length (publish_body fields)
unfolding publish_body
publish_length fields topic identifier list payload is_topic is_identifier is_list is_payload =
    (let e3 : length (list_spelling fields.properties.items ++ fields.payload) ≡ length (list_spelling fields.properties.items) + length fields.payload = length-append (list_spelling fields.properties.items) fields.payload in
    let e2 : length (spelling_if two_bytes_spelling fields.identifier ++ (list_spelling fields.properties.items ++ fields.payload)) ≡ length (spelling_if two_bytes_spelling fields.identifier) + length (list_spelling fields.properties.items ++ fields.payload) = length-append (spelling_if two_bytes_spelling fields.identifier) _ in
    let e1 : length (text_spelling fields.topic ++ (spelling_if two_bytes_spelling fields.identifier ++ (list_spelling fields.properties.items ++ fields.payload))) ≡ length (text_spelling fields.topic) + length (spelling_if two_bytes_spelling fields.identifier ++ (list_spelling fields.properties.items ++ fields.payload)) = length-append (text_spelling fields.topic) _ in
    omega arith)

pub acknowledgement_length : (identifier code : ℕ) (items : List Property) (reason : ℕ) → reason ≡ length (reason_spelling code items) → sum (2 ∷ reason ∷ []) ≡ length (acknowledgement_body identifier code items)
unfolding acknowledgement_body
acknowledgement_length identifier code items reason is = omega arith

pub request_length : (identifier : ℕ) (items : List Property) (filters : List AskedFilter) (list rest : ℕ) → list ≡ length (list_spelling items) → rest ≡ length (filters_spelling filters) → sum (2 ∷ list ∷ rest ∷ []) ≡ length (request_body identifier items filters)
unfolding request_body
request_length identifier items filters list rest is_list is_rest =
    (let e : length (list_spelling items ++ filters_spelling filters) ≡ length (list_spelling items) + length (filters_spelling filters) = length-append (list_spelling items) (filters_spelling filters) in
    omega arith)

pub answer_length : (identifier : ℕ) (items : List Property) (reasons : List ℕ) (list rest : ℕ) → list ≡ length (list_spelling items) → rest ≡ length reasons → sum (2 ∷ list ∷ rest ∷ []) ≡ length (answer_body identifier items reasons)
unfolding answer_body
answer_length identifier items reasons list rest is_list is_rest =
    (let e : length (list_spelling items ++ reasons) ≡ length (list_spelling items) + length reasons = length-append (list_spelling items) reasons in
    omega arith)
