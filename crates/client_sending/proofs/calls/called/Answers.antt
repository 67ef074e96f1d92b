use Rattle.std.proofs.Common.{◌∙◌, map, option_map, sym, ap}
use Rattle.std.specs.Option.{option_copied}
use Rattle.protocol_model.specs.Value.{args_fit}
use Rattle.class_layout.specs.Tables.{class_of}
use Rattle.class_members.specs.Members.{call_of}
use Rattle.value_codec.specs.Values.{arg_of}
use Rattle.client_sending.proofs.Meant.{fits_none, goes_down, unfit, fitting}
use Rattle.client_sending.proofs.calls.called.Goals as goal

pub returns-in_default : goal.returns-in_default
returns-in_default c = λ segments.
    sym (fits_none (class_of segments c.args.class.now) c.args.number (map arg_of c.args.args.now)
    (sym (c.numbered.ensures segments) ∙ ap (λ o. option_map call_of (option_copied o)) c.in_default.is))

pub returns-then-not-goes_up : goal.returns-then-not-goes_up
returns-then-not-goes_up c = λ segments.
    sym (goes_down (class_of segments c.args.class.now) c.args.number (map arg_of c.args.args.now)
    (call_of c.in-Some.called.now)
    (sym (c.numbered.ensures segments) ∙ ap (λ o. option_map call_of (option_copied o)) c.in-Some.is)
    (sym c.goes_up.ensures ∙ c.if-not-goes_up.true))

pub returns-then-not-are_fitting : goal.returns-then-not-are_fitting
returns-then-not-are_fitting c = λ segments.
    sym (unfit (class_of segments c.args.class.now) c.args.number (map arg_of c.args.args.now)
    (call_of c.in-Some.called.now)
    (sym (c.numbered.ensures segments) ∙ ap (λ o. option_map call_of (option_copied o)) c.in-Some.is)
    (sym c.goes_up.ensures ∙ c.if-not-goes_up.false)
    (sym (c.are_fitting.ensures ∙ ap (λ kinds. args_fit kinds (map arg_of c.args.args.now)) c.as_slice.ensures)
    ∙ c.if-not-are_fitting.true))

pub returns : goal.returns
returns c = λ segments.
    sym (fitting (class_of segments c.args.class.now) c.args.number (map arg_of c.args.args.now)
    (call_of c.in-Some.called.now)
    (sym (c.numbered.ensures segments) ∙ ap (λ o. option_map call_of (option_copied o)) c.in-Some.is)
    (sym c.goes_up.ensures ∙ c.if-not-goes_up.false)
    (sym (c.are_fitting.ensures ∙ ap (λ kinds. args_fit kinds (map arg_of c.args.args.now)) c.as_slice.ensures)
    ∙ c.if-not-are_fitting.false))
