-- What a client makes of a whole payload, by what its reading gives.
use Rattle.std.proofs.Common.{◌≡◌, List, length, Bool, Option, Some, None, Result, Ok, Err, refl, sym, ap, ◌∙◌, subst}
use Rattle.protocol_model.specs.declared.Cause.{Cause}
use Rattle.protocol_model.specs.declared.Version.{Version}
use Rattle.protocol_model.specs.Payload.{Message}
use Rattle.protocol_model.specs.Reading.{Fault, Broken}
use Rattle.connection_model.specs.Feed.{Past, Delivered}
use Rattle.connection_model.specs.PayloadReading.{client_payload_at}
use Rattle.connection_model.specs.Verdict.{payload_cause, delivery_of}
use Rattle.class_layout.specs.Tables.{Layout, table_in}
use Rattle.receiving_laws.specs.Receiving.{Raw}
use Rattle.client_hearing.specs.Keeping.{end_as}
use Rattle.client_hearing.specs.Hearing.{result_of, delivery}

-- what the reading of a payload gives
abbrev pub Got : Type 0
Got = Result (Message × List Bool) (Fault (Option Cause))

-- the payload as a client reads it
abbrev pub read_of : Layout → Past → Raw → Got
read_of layout past raw = client_payload_at (table_in layout) past raw.0 raw.1

-- and what is made of it
abbrev pub made_of : Layout → Version → Past → Raw → Got → Result (Option Delivered) Cause
made_of layout version past raw got = elim got [
  | Ok got ↦ Ok (Some (delivery_of (end_as layout version) past raw.0 got.0))
  | Err fault ↦ Err (payload_cause raw.0.channel (length raw.1) fault)
]

made_is : (layout : Layout) (version : Version) (past : Past) (raw : Raw)
    → result_of layout version past raw ≡ made_of layout version past raw (read_of layout past raw)
made_is layout version past raw = refl

pub result_ok : (layout : Layout) (version : Version) (past : Past) (raw : Raw) (m : Message)
    (rest : List Bool) → read_of layout past raw ≡ Ok (m, rest)
    → result_of layout version past raw ≡ Ok (Some (delivery layout version past raw m))
result_ok layout version past raw m rest e =
    made_is layout version past raw ∙ ap (made_of layout version past raw) e

pub result_err : (layout : Layout) (version : Version) (past : Past) (raw : Raw)
    (fault : Fault (Option Cause)) → read_of layout past raw ≡ Err fault
    → result_of layout version past raw ≡ Err (payload_cause raw.0.channel (length raw.1) fault)
result_err layout version past raw fault e =
    made_is layout version past raw ∙ ap (made_of layout version past raw) e

-- what was handed on was read
pub record WasRead (layout : Layout) (version : Version) (past : Past) (raw : Raw) (d : Delivered)
    : Type 0 where
  pub message : Message
  pub rest : List Bool
  pub read : read_of layout past raw ≡ Ok (message, rest)
  pub is : d ≡ delivery layout version past raw message

one_payload : (x y : Delivered)
    → ◌≡◌ {A = Result (Option Delivered) Cause} (Ok (Some x)) (Ok (Some y)) → x ≡ y
one_payload x y e = cc

pub was_read : (layout : Layout) (version : Version) (past : Past) (raw : Raw) (d : Delivered)
    → result_of layout version past raw ≡ Ok (Some d) → WasRead layout version past raw d
was_read layout version past raw d e = by (read_of layout past raw) refl
  where
    by : (got : Got) → read_of layout past raw ≡ got → WasRead layout version past raw d
    by (Ok got) r = record {
      message = got.0;
      rest = got.1;
      read = r;
      is = one_payload _ _ (sym e ∙ result_ok layout version past raw got.0 got.1 r);
    }
    by (Err fault) r =
        let no : ◌≡◌ {A = Result (Option Delivered) Cause} (Ok (Some d))
        (Err (payload_cause raw.0.channel (length raw.1) fault)) =
        sym e ∙ result_err layout version past raw fault r in
        absurd (cc)
