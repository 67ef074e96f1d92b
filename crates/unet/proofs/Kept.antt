-- What is promised of every script that is read holds of a replay that took its transcript.
use Rattle.std.proofs.Common.{◌≡◌, ℕ, List, ◌++◌, false, Option, Result, Ok, Err, inl, inr, refl, sym, ap, ◌∙◌, subst}
use Rattle.std.specs.Io.KnownBytes.{Appends}
use Rattle.protocol_model.specs.Value.{Table}
use Rattle.protocol_model.specs.declared.LineWhy.{LineWhy}
use Rattle.table_model.specs.BuiltInFile.{built_in_file}
use Rattle.table_model.specs.Grammar.{table_in}
use Rattle.table_model.proofs.BuiltIn.{file_is_table}
use Rattle.script_model.specs.Lines.{Line, Text}
use Rattle.script_model.specs.ScriptRules.{Reads, script_of}
use Rattle.replication_model.specs.Headline.{Holds}
use Rattle.replication_model.specs.Transcript.{transcript_result}
use Rattle.recovery_laws.proofs.Players.{read_holds}
use Rattle.isolation_laws.specs.Told.{ServesEachAlone}
use Rattle.isolation_laws.proofs.LeftOut.{read_alone}
use Rattle.net_core.specs.Folder.{Folder}
use Rattle.unet.specs.Headline.{KeepsThroughout}
use Rattle.unet.specs.Runs.{IsTableAt, TakesTranscript}

-- the promise holds of all lines that a script reads over the table
abbrev OfScripts : (Table → List Line → Type 0) → Table → Type 0
OfScripts Promise table =
    (script : List ℕ) (front rest : List Line) → Reads table false script (front ++ rest) → Promise table front

-- a text that was told is that of the good lines
told_text : (x y : Text) → ◌≡◌ {A = Result Text (ℕ × LineWhy)} (Ok x) (Ok y) → x ≡ y
told_text x y e = cc

-- the lines of a replay keep the promise
kept : (Promise : Table → List Line → Type 0) (folder : Folder) (classes script : Text) (old new : Option (List ℕ))
    → (t : TakesTranscript folder classes script old new) → OfScripts Promise t.table
    → KeepsThroughout Promise folder classes script old new
kept Promise folder classes script old new t promise = by_reading (script_of t.table false t.file) refl t.replays
  where
    by_reading : (r : Result (List Line) (ℕ × LineWhy)) → script_of t.table false t.file ≡ r
        → transcript_result t.table r ≡ Ok t.text
        → KeepsThroughout Promise folder classes script old new
    by_reading (Ok lines) is told = record {
      table = t.table;
      is_table = t.is_table;
      file = t.file;
      there = t.there;
      lines = lines;
      read = is;
      taken = subst (Appends old new) (sym (told_text _ _ told)) t.taken;
      kept = λ front rest e. promise t.file front rest (subst (Reads t.table false t.file) e is);
    }
    by_reading (Err bad) is told = absurd (cc)

-- each table of a replay is that of a file: `-` names the built-in one
table_given : (folder : Folder) (name : Text) (table : Table) → IsTableAt folder name table
    → (file : List ℕ) × (table_in file ≡ Ok table)
table_given folder name table (inl built_in) = (built_in_file, file_is_table ∙ ap Ok (sym built_in.1))
table_given folder name table (inr named) = (named.1.0, named.1.2)

-- the headline: calls are handed over as prefixes, and settled actors are copied
pub holds_throughout : (folder : Folder) (classes script : Text) (old new : Option (List ℕ))
    → TakesTranscript folder classes script old new
    → KeepsThroughout Holds folder classes script old new
holds_throughout folder classes script old new t =
    let given = table_given folder classes t.table t.is_table in
    kept Holds folder classes script old new t
    (λ bytes front rest read. read_holds t.table front
    (record { file = given.0; given = given.1; script = bytes; more = rest; read = read }))

-- each player is served as if it were alone
pub serves_throughout : (folder : Folder) (classes script : Text) (old new : Option (List ℕ))
    → TakesTranscript folder classes script old new
    → KeepsThroughout ServesEachAlone folder classes script old new
serves_throughout folder classes script old new t =
    kept ServesEachAlone folder classes script old new t
    (λ bytes front rest read. read_alone t.table bytes front rest read)
