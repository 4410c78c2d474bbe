use Rattle.std.proofs.Common.{◌≡◌, ◌++◌}
use Rattle.mq_packet.specs.Reading.{connect_view}
use Rattle.mq_display.specs.Details.{password_words, property_words, user_words, will_words}
use Rattle.mq_display.specs.ItemText.{with_spaces}
use Rattle.mq_display.specs.Outgoing.{Puts}
use Rattle.mq_display.proofs.DetailLaws.{puts_words, connect_fields}
use Rattle.mq_display.proofs.display.details.put_connect.Goals as goal

pub returns : goal.returns
returns g c =
    let fields = connect_view c.args.connect.now in
    let number : c.from.result ≡ c.args.connect.now.keep_alive = c.from.ensures in
    let put : Puts g.W.Write.contents c.args.out.now (with_spaces (connect_fields fields)) c.put_all.new.out = rw (← number) c.put_all.ensures in
    puts_words g.W.Write.contents _ _ _ (connect_fields fields)
    (property_words fields.properties ++ (will_words fields.will ++ (user_words fields.user_name ++ password_words fields.password))) put
    (puts_words g.W.Write.contents _ _ _ (property_words fields.properties) (will_words fields.will ++ (user_words fields.user_name ++ password_words fields.password))
    c.put_properties.ensures
    (puts_words g.W.Write.contents _ _ _ (will_words fields.will) (user_words fields.user_name ++ password_words fields.password) c.put_will.ensures
    (puts_words g.W.Write.contents _ _ _ (user_words fields.user_name) (password_words fields.password) c.put_user_name.ensures c.put_password.ensures)))
