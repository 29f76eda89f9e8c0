-- The two numbers are exchanged.
use Rattle.rows.specs.Law.{rows_partners}
use Rattle.rows.proofs.Pairs.{tie_same, untie_same}
use Rattle.rows.proofs.Exchange.{exchanged, exchange_sound}
use Rattle.rows.proofs.rows.Rows.exchange.Goals as goal

pub invariant_of-self : goal.invariant_of-self
invariant_of-self c = record { sound = exchange_sound c.args.self.now.sound c.requires c.swap.ensures.len c.place-p.ensures.value c.place-q.ensures.value c.swap.ensures.by_index }

pub returns : goal.returns
returns c =
    let sound = c.args.self.now.sound in
    let made = exchanged sound c.requires c.swap.ensures.len c.place-p.ensures.value c.place-q.ensures.value c.swap.ensures.by_index in
    record { free = tie_same made c.requires.two.apart; partners = untie_same made (rows_partners sound) c.requires.two.apart }
