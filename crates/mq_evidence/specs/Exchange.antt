-- The exchanges as the statements have them.
use Rattle.mq_rules.specs.Exchanges as exchanges
use Rattle.mq_rules.specs.Exchanges.{publish_puback, publish_pubrec, pubrec_pubrel, pubrel_pubcomp, subscribe_suback, unsubscribe_unsuback}
use Rattle.mq_evidence.specs.declared.exchange.Exchange.{Exchange}
use Rattle.mq_evidence.specs.declared.exchange.Exchange.TheVariants.{PublishPuback, PublishPubrec, PubrecPubrel, PubrelPubcomp, SubscribeSuback, UnsubscribeUnsuback}

abbrev pub exchange_of : Exchange → exchanges.Exchange
exchange_of PublishPuback = publish_puback
exchange_of PublishPubrec = publish_pubrec
exchange_of PubrecPubrel = pubrec_pubrel
exchange_of PubrelPubcomp = pubrel_pubcomp
exchange_of SubscribeSuback = subscribe_suback
exchange_of UnsubscribeUnsuback = unsubscribe_unsuback
