use Rattle.std.proofs.Common.{◌∙◌, ◌<◌, ap, sym, subst, not, arith}
use Rattle.connection_model.specs.Fates.{unresolved_count}
use Rattle.link_end.specs.Link.{Link}
use Rattle.link_end.specs.Rests.{Rests}
use Rattle.link_end.specs.contracts.link.LinkEnd.{the_view}
use Rattle.link_end.proofs.Live.{live}
use Rattle.link_end.proofs.Ticks.{begins_packs}
use Rattle.link_end.proofs.link.LinkEnd.begin_tick.Goals as goal

pub returns-clause-stands : goal.returns-clause-stands
returns-clause-stands c = λ end past sight h.
    let r = live c.args.self.now c.requires (ap (λ (l : Link). l.spent) (sym c.self.view_is) ∙ c.if-self.false) in
    let P : Link → Type 0 = λ l. Rests l end past in
    let inside : P (the_view c.self.inside) = subst P (sym c.self.view_is) h in
    let few : unresolved_count past < 4096 =
    omega (arith, h.book.sent, h.book.high, r.2.book.sent, r.2.book.high, r.3) in
    begins_packs (the_view c.self.inside) end past sight c.tell_tick.new.book c.in-Ok.packets
    c.longer_silence-self-inside.result (not c.is_empty.result)
    inside few c.self.invariant.0 (c.in-Ok.ensures.begun end.version past inside.book) (ap not c.is_empty.ensures)
    (λ e t s. c.tell_tick.ensures.empty e end.version past t s inside.book)
    (λ e t s k items. c.tell_tick.ensures.begun e end.version past t s k items inside.book)
    c.longer_silence-self-inside.ensures
