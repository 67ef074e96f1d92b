-- From a script's bytes to the whole transcript.
use Rattle.std.specs.Prelude.{◌≡◌, refl, ◌++◌, codes, Ok}
use Rattle.std.specs.Fmt.{digits as decimal_digits}
use Rattle.protocol_model.specs.Numbers.{leading_groups}
use Rattle.protocol_model.specs.Bits.{int_width, digits, packed_in, bytes_in}
use Rattle.script_model.specs.Lines.{Text}
use Rattle.replication_model.specs.Transcript.{replay_of}
use Rattle.protocol_model.specs.BuiltIn.{built_in_table, pawn, flag, purse}

-- the first lines of a script: a comment, an open, its delivery and the copy
first_open-script : Text
first_open-script =
    codes "join 1 8000\n# a comment\nspawn Pawn 10 -3\nset 1 hp 75\ntick\ndown 1 1\ndump 1\n"

first_open : replay_of built_in_table first_open-script ≡ Ok (
    codes "joined 1\n"
    ++ codes "actor 1\n"
    ++ codes "sent 1 1 0180190024009d04020300e228acad4cc180800abb732350105000000020e8ffffff3780b"
    ++ codes "0c480030000000040\n"
    ++ codes "down 1 1 taken\n"
    ++ codes "copies 1 1\n"
    ++ codes "copy 1 1 Pawn open x=10 y=-3 role=0 hp=75 ammo=0 team=0 aim=0\n")
unfolding first_open-script pawn flag purse decimal_digits digits packed_in bytes_in int_width leading_groups
first_open = refl

-- reliable and unreliable calls of both sides
calls-script : Text
calls-script =
    codes "join 1 8000\nspawn Pawn 0 0\nown 1 1\ntick\ndown 1 1\nctick 1\nup 1 1\n"
    ++ codes "ccall 1 1 fire -5\nccall 1 1 blob 2aFF\nctick 1\nup 1 2\ncall 1 1 hurt 7\n"
    ++ codes "multi 1 boom 300\ntick\ndownnew 1 0\ndump 1\n"

calls : replay_of built_in_table calls-script ≡ Ok (
    codes "joined 1\n"
    ++ codes "actor 1\n"
    ++ codes "sent 1 1 0180190024009d04020300e228acad4cc180800abb7323501000000000200000000030884"
    ++ codes "0a600000000c00040\n"
    ++ codes "down 1 1 taken\n"
    ++ codes "csent 1 1 01c00020\n"
    ++ codes "up 1 1 taken\n"
    ++ codes "ccall 1 queued\n"
    ++ codes "ccall 1 queued\n"
    ++ codes "csent 1 2 020006000840312081c0feffff3f060010402c2001820054fe03\n"
    ++ codes "handed 1 1 fire run -5\n"
    ++ codes "handed 1 1 blob run 2aff\n"
    ++ codes "up 1 2 taken\n"
    ++ codes "call 1 queued\n"
    ++ codes "call 1 queued\n"
    ++ codes "sent 1 2 02c000a000800100045006484070000100424002832c82\n"
    ++ codes "down 1 1 old\n"
    ++ codes "chanded 1 1 hurt run 7\n"
    ++ codes "chanded 1 1 boom run 300\n"
    ++ codes "down 1 2 taken\n"
    ++ codes "copies 1 1\n"
    ++ codes "copy 1 1 Pawn open x=0 y=0 role=1 hp=100 ammo=0 team=0 aim=0\n")
unfolding calls-script pawn flag purse decimal_digits digits packed_in bytes_in int_width leading_groups
calls = refl

-- an actor out of reach is relevant while it is added, and is closed five ticks after
added-script : Text
added-script =
    codes "join 1 8000\nspawn Pawn 5000 0\nadd 1 1\ntick\nunadd 1 1\ntick\ntick\ntick\ntick\n"
    ++ codes "tick\n"

added : replay_of built_in_table added-script ≡ Ok (
    codes "joined 1\n"
    ++ codes "actor 1\n"
    ++ codes "sent 1 1 0180190024009d04020300e228acad4cc180800abb73235010409c0000200000000030804"
    ++ codes "0c680030000000040\n"
    ++ codes "sent 1 2 028032008000020001\n")
unfolding added-script pawn flag purse decimal_digits digits packed_in bytes_in int_width leading_groups
added = refl

-- a dormant actor is closed and its copy sleeps; woken, it is opened again with its values now
woken-script : Text
woken-script =
    codes "join 1 8000\nspawn Flag 0 0\ntick\ndownnew 1 0\nctick 1\nupnew 1 0\ndormant 1\n"
    ++ codes "tick\ndownnew 1 0\nctick 1\nupnew 1 0\nset 1 score 7\ntick\nwake 1\ntick\n"
    ++ codes "downnew 1 0\ndump 1\n"

woken : replay_of built_in_table woken-script ≡ Ok (
    codes "joined 1\n"
    ++ codes "actor 1\n"
    ++ codes "sent 1 1 0180190024001504020300e228acadccc18030620b3b23701000000000200000000030800"
    ++ codes "0a0000010\n"
    ++ codes "down 1 1 taken\n"
    ++ codes "csent 1 1 01c00020\n"
    ++ codes "up 1 1 taken\n"
    ++ codes "sent 1 2 02c000401b0040000180\n"
    ++ codes "down 1 2 taken\n"
    ++ codes "csent 1 2 02400120\n"
    ++ codes "up 1 2 taken\n"
    ++ codes "sent 1 3 03400120\n"
    ++ codes "sent 1 4 04801900600045020207010000000002000000000308000a0e0001\n"
    ++ codes "down 1 3 taken\n"
    ++ codes "down 1 4 taken\n"
    ++ codes "copies 1 1\n"
    ++ codes "copy 1 1 Flag open x=0 y=0 role=0 holder=0 score=7\n")
unfolding woken-script pawn flag purse decimal_digits digits packed_in bytes_in int_width leading_groups
woken = refl

-- of the new packets each second one is lost, by its number
each_second_lost-script : Text
each_second_lost-script =
    codes "join 1 8000\nspawn Flag 0 0\ntick\ndownnew 1 0\nctick 1\nupnew 1 0\nset 1 score 7\n"
    ++ codes "tick\nset 1 score 8\ntick\ndownnew 1 2\ndump 1\n"

each_second_lost : replay_of built_in_table each_second_lost-script ≡ Ok (
    codes "joined 1\n"
    ++ codes "actor 1\n"
    ++ codes "sent 1 1 0180190024001504020300e228acadccc18030620b3b23701000000000200000000030800"
    ++ codes "0a0000010\n"
    ++ codes "down 1 1 taken\n"
    ++ codes "csent 1 1 01c00020\n"
    ++ codes "up 1 1 taken\n"
    ++ codes "sent 1 2 02c00000020064000a0e0001\n"
    ++ codes "sent 1 3 03000400c80014200002\n"
    ++ codes "down 1 3 taken\n"
    ++ codes "copies 1 1\n"
    ++ codes "copy 1 1 Flag open x=0 y=0 role=0 holder=0 score=8\n")
unfolding each_second_lost-script pawn flag purse decimal_digits digits packed_in bytes_in int_width leading_groups
each_second_lost = refl

-- after forged packets of numbers 8,000 and 16,000 the first one is late
late-script : Text
late-script =
    codes "join 1 8000\nspawn Flag 0 0\ntick\ncforge 1 405f\ncforge 1 807e\ndown 1 1\n"

late : replay_of built_in_table late-script ≡ Ok (
    codes "joined 1\n"
    ++ codes "actor 1\n"
    ++ codes "sent 1 1 0180190024001504020300e228acadccc18030620b3b23701000000000200000000030800"
    ++ codes "0a0000010\n"
    ++ codes "cforge 1 taken\n"
    ++ codes "cforge 1 taken\n"
    ++ codes "down 1 1 late\n")
unfolding late-script pawn flag purse decimal_digits digits packed_in bytes_in int_width leading_groups
late = refl
