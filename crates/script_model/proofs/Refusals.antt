-- Scripts that are refused, each with the number of its first bad line and the first reason against it.
use Rattle.std.specs.Prelude.{◌≡◌, refl, [], ◌∷◌, ◌++◌, true, false, codes, decimal, map, Err}
use Rattle.std.specs.Fmt.{digits as decimal_digits}
use Rattle.std.specs.List.{range_with_len, flat_map}
use Rattle.protocol_model.specs.BuiltIn.{built_in_table, pawn, flag, purse}
use Rattle.protocol_model.specs.declared.LineWhy.TheVariants.{TooLong, NotText, Full, Shape, Place, Range, NoPlayer, Taken, NoClass, NoActor, NoName}
use Rattle.protocol_model.specs.declared.LineWhy.TheVariants as LineWhy
use Rattle.script_model.specs.ScriptRules.{script_of, BadLine}

no_spawn : BadLine built_in_table false (codes "join 1 8000\nset 1 hp 3\n") 2 NoActor
unfolding pawn flag purse
no_spawn = refl

joined_twice : BadLine built_in_table false (codes "join 1 8000\njoin 1 8000\n") 2 Taken
unfolding pawn flag purse
joined_twice = refl

trailing_space : BadLine built_in_table false (codes "tick \n") 1 Shape
unfolding pawn flag purse
trailing_space = refl

player_zero : BadLine built_in_table false (codes "join 0 1\n") 1 Range
unfolding pawn flag purse
player_zero = refl

budget_too_large : BadLine built_in_table false (codes "join 1 1000001") 1 Range
unfolding pawn flag purse
budget_too_large = refl

x_too_large : BadLine built_in_table false (codes "\nspawn Pawn 1 2147483648") 2 Range
unfolding pawn flag purse
x_too_large = refl

no_such_class : BadLine built_in_table false (codes "spawn Nobody 1 2") 1 NoClass
unfolding pawn flag purse
no_such_class = refl

role_is_not_set : BadLine built_in_table false (codes "spawn Pawn 1 2\nset 1 role 1") 2 NoName
unfolding pawn flag purse
role_is_not_set = refl

value_too_large : BadLine built_in_table false (codes "spawn Pawn 1 2\nset 1 hp 256") 2 LineWhy.Value
unfolding pawn flag purse
value_too_large = refl

value_with_zero : BadLine built_in_table false (codes "spawn Pawn 1 2\nset 1 hp 01") 2 LineWhy.Value
unfolding pawn flag purse
value_with_zero = refl

destroyed_actor : BadLine built_in_table false (codes "spawn Pawn 1 2\ndestroy 1\nset 1 hp 1") 3 NoActor
unfolding pawn flag purse
destroyed_actor = refl

call_goes_up : BadLine built_in_table false (codes "join 1 1\nspawn Pawn 1 2\ncall 1 1 fire 1") 3 LineWhy.Kind
unfolding pawn flag purse
call_goes_up = refl

too_few_arguments : BadLine built_in_table false (codes "join 1 1\nspawn Pawn 1 2\ncall 1 1 hurt") 3 NoName
unfolding pawn flag purse
too_few_arguments = refl

empty_argument : BadLine built_in_table false (codes "join 1 1\nspawn Pawn 1 2\ncall 1 1 hurt ") 3 LineWhy.Value
unfolding pawn flag purse
empty_argument = refl

minus_zero : BadLine built_in_table false (codes "spawn Pawn -0 2") 1 Shape
unfolding pawn flag purse
minus_zero = refl

odd_hex : BadLine built_in_table false (codes "join 1 1\nforge 1 0") 2 Shape
unfolding pawn flag purse
odd_hex = refl

no_hex : BadLine built_in_table false (codes "join 1 1\nforge 1 zz") 2 Shape
unfolding pawn flag purse
no_hex = refl

other_player : BadLine built_in_table false (codes "join 1 1\nforge 2 00") 2 NoPlayer
unfolding pawn flag purse
other_player = refl

every_too_large : BadLine built_in_table false (codes "join 1 1\ndownnew 1 1001") 2 Range
unfolding pawn flag purse
every_too_large = refl

join_in_live : BadLine built_in_table true (codes "join 1 1") 1 Place
unfolding pawn flag purse
join_in_live = refl

switch_of_plain : BadLine built_in_table false (codes "spawn Pawn 1 2\nswitch 1 hp 1") 2 NoName
unfolding pawn flag purse
switch_of_plain = refl

switch_of_two : BadLine built_in_table false (codes "spawn Pawn 1 2\nswitch 1 hp 2") 2 Shape
unfolding pawn flag purse
switch_of_two = refl

team_too_large : BadLine built_in_table false (codes "team 1 65") 1 Range
unfolding pawn flag purse
team_too_large = refl

own_without_spawn : BadLine built_in_table false (codes "own 1 0") 1 NoActor
unfolding pawn flag purse
own_without_spawn = refl

-- a byte that is no ASCII
not_text : script_of [] false (codes "tick\n" ++ 128 ∷ []) ≡ Err (2, NotText)
not_text = refl

-- the 65th join
one_too_many : script_of [] false (flat_map (λ n. codes "join " ++ decimal n ++ codes " 1\n") (range_with_len 1 65))
    ≡ Err (65, Full)
unfolding decimal_digits
one_too_many = refl

-- a line of 16,385 bytes
too_long : script_of [] false (map (λ n. 35) (range_with_len 0 16385)) ≡ Err (1, TooLong)
too_long = refl
