-- The words with which lines begin.
use Rattle.std.specs.Prelude.{Option, Some, None, if◌then◌else◌, codes}
use Rattle.std.specs.Str.{bytes_eq}
use Rattle.protocol_model.specs.Search.{or_else}
use Rattle.script_model.specs.Lines.{Text}
use Rattle.script_spelling.specs.declared.word.Word.{Word}
use Rattle.script_spelling.specs.declared.word.Word.TheVariants as word

-- the word of joins and edits that the text is
abbrev pub world_word : Text → Option Word
world_word text =
    if bytes_eq (codes "join") text then Some word.Join
    else if bytes_eq (codes "join2") text then Some word.Join2
    else if bytes_eq (codes "spawn") text then Some word.Spawn
    else if bytes_eq (codes "destroy") text then Some word.Destroy
    else if bytes_eq (codes "set") text then Some word.Set
    else if bytes_eq (codes "own") text then Some word.Own
    else if bytes_eq (codes "view") text then Some word.View
    else if bytes_eq (codes "add") text then Some word.Add
    else if bytes_eq (codes "unadd") text then Some word.Unadd
    else if bytes_eq (codes "dormant") text then Some word.Dormant
    else if bytes_eq (codes "wake") text then Some word.Wake
    else if bytes_eq (codes "flush") text then Some word.Flush
    else if bytes_eq (codes "switch") text then Some word.Switch
    else if bytes_eq (codes "team") text then Some word.Team
    else if bytes_eq (codes "give") text then Some word.Give
    else None

-- the word of ticks, deliveries, calls and questions that the text is
abbrev pub play_word : Text → Option Word
play_word text =
    if bytes_eq (codes "tick") text then Some word.Tick
    else if bytes_eq (codes "ctick") text then Some word.ClientTick
    else if bytes_eq (codes "down") text then Some word.Down
    else if bytes_eq (codes "up") text then Some word.Up
    else if bytes_eq (codes "downnew") text then Some word.DownNew
    else if bytes_eq (codes "upnew") text then Some word.UpNew
    else if bytes_eq (codes "call") text then Some word.Call
    else if bytes_eq (codes "ccall") text then Some word.ClientCall
    else if bytes_eq (codes "multi") text then Some word.Multi
    else if bytes_eq (codes "dump") text then Some word.Dump
    else if bytes_eq (codes "settled") text then Some word.Settled
    else if bytes_eq (codes "forge") text then Some word.Forge
    else if bytes_eq (codes "cforge") text then Some word.ClientForge
    else None

-- the word that the text is
abbrev pub word_of : Text → Option Word
word_of text = or_else (world_word text) (play_word text)
