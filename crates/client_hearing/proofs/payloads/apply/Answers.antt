use Rattle.std.proofs.Common.{◌≡◌, length, List, Ok, Some, OnOk, refl, sym, subst}
use Rattle.channel_table.proofs.Kept.{on_ok}
use Rattle.client_payloads.specs.Messages.{unopened_payload}
use Rattle.client_payloads.specs.declared.payloads.Payload.{Payload}
use Rattle.client_hearing.specs.Moments.{Reads, past_at, handing}
use Rattle.client_hearing.specs.Hearing.{result_of, delivery}
use Rattle.client_hearing.proofs.Leaving.{gone_reads, update_reads, call_reads, close_reads}
use Rattle.client_hearing.proofs.payloads.apply.Goals as goal

pub returns-in-Gone-clause-reads : goal.returns-in-Gone-clause-reads
returns-in-Gone-clause-reads c = λ layout version names w raw held h opens.
    subst (λ (p : Payload). result_of layout version (past_at w) raw ≡ Ok (Some (delivery layout version
    (past_at w) raw (unopened_payload layout c.args.copies.now c.args.m.now.channel c.args.m.now.sleeps p)))
    → Reads layout version c.args.table.now.bound names c.remove.new.self c.args.calls.now.items
    (handing (delivery layout version (past_at w) raw
    (unopened_payload layout c.args.copies.now c.args.m.now.channel c.args.m.now.sleeps p)) w))
    (sym c.in-Gone.is)
    (λ result. gone_reads layout version c.args.table.now.bound names c.args.copies.now c.remove.new.self
    c.args.calls.now.items w c.args.m.now raw held c.in-Gone.actor h result (c.remove.ensures.follows layout)
    (c.remove.ensures.placed (length layout.classes) h.reads.placed))

pub returns-in-Close-clause-reads : goal.returns-in-Close-clause-reads
returns-in-Close-clause-reads c = λ layout version names w raw held h opens.
    subst (λ (p : Payload). result_of layout version (past_at w) raw ≡ Ok (Some (delivery layout version
    (past_at w) raw (unopened_payload layout c.args.copies.now c.args.m.now.channel c.args.m.now.sleeps p)))
    → Reads layout version c.unbind.new.self.bound names c.close.new.self c.args.calls.now.items
    (handing (delivery layout version (past_at w) raw
    (unopened_payload layout c.args.copies.now c.args.m.now.channel c.args.m.now.sleeps p)) w))
    (sym c.in-Close.is)
    (λ result. close_reads layout version c.args.table.now.bound c.unbind.new.self.bound names
    c.args.copies.now c.close.new.self c.args.calls.now.items w c.args.m.now raw held h result
    (λ x kept. c.close.ensures.follows layout x kept)
    (c.close.ensures.placed (length layout.classes) h.reads.placed) c.unbind.ensures.channels
    c.unbind.ensures.pairs)

pub returns-in-Close-clause-rest : goal.returns-in-Close-clause-rest
returns-in-Close-clause-rest c = c.unbind.ensures.rest

pub returns-in-Update-clause-reads : goal.returns-in-Update-clause-reads
returns-in-Update-clause-reads c = λ layout version names w raw held h opens.
    subst (λ (p : Payload). result_of layout version (past_at w) raw ≡ Ok (Some (delivery layout version
    (past_at w) raw (unopened_payload layout c.args.copies.now c.args.m.now.channel c.args.m.now.sleeps p)))
    → Reads layout version c.args.table.now.bound names c.update.new.self c.args.calls.now.items
    (handing (delivery layout version (past_at w) raw
    (unopened_payload layout c.args.copies.now c.args.m.now.channel c.args.m.now.sleeps p)) w))
    (sym c.in-Update.is)
    (λ result. update_reads layout version c.args.table.now.bound names c.args.copies.now c.update.new.self
    c.args.calls.now.items w c.args.m.now raw held c.in-Update.values h result
    (λ x kept. c.update.ensures.follows layout x kept)
    (c.update.ensures.placed (length layout.classes) h.reads.placed))

pub returns-in-Call-clause-reads : goal.returns-in-Call-clause-reads
returns-in-Call-clause-reads c =
    on_ok c.hand_over.result _ _ (λ is layout version names w raw held h opens.
    subst (λ (p : Payload). result_of layout version (past_at w) raw ≡ Ok (Some (delivery layout version
    (past_at w) raw (unopened_payload layout c.args.copies.now c.args.m.now.channel c.args.m.now.sleeps p)))
    → Reads layout version c.args.table.now.bound names c.args.copies.now c.hand_over.new.calls.items
    (handing (delivery layout version (past_at w) raw
    (unopened_payload layout c.args.copies.now c.args.m.now.channel c.args.m.now.sleeps p)) w))
    (sym c.in-Call.is)
    (λ result. call_reads layout version c.args.table.now.bound names c.args.copies.now
    c.args.calls.now.items c.hand_over.new.calls.items w c.args.m.now raw held c.in-Call.call _ h result is
    refl refl refl refl refl)) c.hand_over.ensures
