-- The calls that are handed over, after one more payload.
use Rattle.std.proofs.Common.{◌≡◌, ℕ, List, [], ◌∷◌, ◌++◌, map, reverse, filter_map, Bool, Option, Some, None, refl, sym, ap, ◌∙◌}
use Rattle.std.proofs.lemmas.List.{reverse-append, append-nil, map-append}
use Rattle.std.proofs.lemmas.List.Elements.{filter_map-append}
use Rattle.std.specs.List.{cons_option}
use Rattle.protocol_model.specs.Value.{Call, Arg}
use Rattle.protocol_model.specs.Payload.{Message, Opens, Closes, Updates, Calls, Gone}
use Rattle.protocol_model.specs.declared.CallVerdict.{CallVerdict}
use Rattle.connection_model.specs.Feed.{Delivered}
use Rattle.connection_model.specs.Handed.{client_verdict}
use Rattle.class_layout.specs.Tables.{Layout}
use Rattle.value_codec.specs.declared.handed.Handed.{Handed}
use Rattle.handovers.specs.Handovers.{Handover, handover_in, handovers, handover_of}
use Rattle.client_hearing.specs.Moments.{AreHanded}

-- a client's verdict, whoever the actor is
abbrev pub at_client : ℕ → Bool → CallVerdict
at_client actor held = client_verdict held

one_more : (d : Delivered) (payloads : List Delivered)
    → handovers (λ actor held. client_verdict held) (reverse (d ∷ payloads))
    ≡ handovers (λ actor held. client_verdict held) (reverse payloads)
    ++ cons_option (handover_in (λ actor held. client_verdict held) d) []
one_more d payloads =
    ap (filter_map (handover_in (λ actor held. client_verdict held)))
    (reverse-append (d ∷ []) payloads)
    ∙ filter_map-append (handover_in (λ actor held. client_verdict held)) (reverse payloads) (d ∷ [])

-- a payload that is no call hands nothing over
pub no_call_handed : (layout : Layout) (calls : List Handed) (d : Delivered) (payloads : List Delivered)
    → handover_in (λ actor held. client_verdict held) d ≡ None → AreHanded layout calls payloads
    → AreHanded layout calls (d ∷ payloads)
no_call_handed layout calls d payloads none told =
    told ∙ sym (one_more d payloads
    ∙ ap (λ (o : Option Handover).
    handovers (λ actor held. client_verdict held) (reverse payloads) ++ cons_option o []) none
    ∙ append-nil (handovers (λ actor held. client_verdict held) (reverse payloads)))

-- a call is handed over behind those before
pub call_handed : (layout : Layout) (calls : List Handed) (h : Handed) (d : Delivered)
    (payloads : List Delivered)
    → handover_in (λ actor held. client_verdict held) d ≡ Some (handover_of layout h)
    → AreHanded layout calls payloads → AreHanded layout (calls ++ h ∷ []) (d ∷ payloads)
call_handed layout calls h d payloads is told =
    map-append (handover_of layout) calls (h ∷ [])
    ∙ ap (λ (xs : List Handover). xs ++ handover_of layout h ∷ []) told
    ∙ sym (one_more d payloads
    ∙ ap (λ (o : Option Handover).
    handovers (λ actor held. client_verdict held) (reverse payloads) ++ cons_option o []) is)

-- nothing was handed over before
pub none_handed : (layout : Layout) → AreHanded layout [] []
none_handed layout = refl
