-- The limits of the protocol, each by its name. Every other definition has them from here.
use Rattle.std.specs.Prelude.{ℕ, ◌*◌, ◌^◌}

-- ---- packets

-- most bytes of a packet
abbrev pub packet_bytes : ℕ
packet_bytes = 1024

-- packet numbers are told modulo this
abbrev pub packet_modulus : ℕ
packet_modulus = 16384

-- channel indexes are below this in version one, and below the other one in version two
abbrev pub channels_one : ℕ
channels_one = 10240

abbrev pub channels_two : ℕ
channels_two = 2 ^ 15

-- bunch numbers of a channel are told modulo this
abbrev pub sequence_modulus : ℕ
sequence_modulus = 1024

-- a bunch has fewer bits of payload than this
abbrev pub bunch_bits_limit : ℕ
bunch_bits_limit = 8192

-- most words of 32 packets in a head of version two
abbrev pub head_words : ℕ
head_words = 8

-- ---- a connection

-- most packets sent of which nothing is known
abbrev pub unresolved_limit : ℕ
unresolved_limit = 4096

-- most acknowledgements that a packet's end owes
abbrev pub owed_limit : ℕ
owed_limit = 512

-- most numbers of a channel from the least that hasn't arrived, and of all channels together
abbrev pub span_limit : ℕ
span_limit = 256

abbrev pub span_sum_limit : ℕ
span_sum_limit = 512

-- most bunches that are held behind a gap
abbrev pub held_limit : ℕ
held_limit = 512

-- most unreliable calls that wait for a tick
abbrev pub waiting_limit : ℕ
waiting_limit = 256

-- a packet that is this far below the newest taken is late
abbrev pub late_distance : ℕ
late_distance = 8192

-- ---- payloads

-- bits of each part but the last
abbrev pub part_bits : ℕ
part_bits = 7000

-- most parts of a payload, and so most bits of one
abbrev pub part_limit : ℕ
part_limit = 10

abbrev pub payload_bits : ℕ
payload_bits = part_limit * part_bits

-- most bits of an update
abbrev pub update_bits : ℕ
update_bits = 6000

-- ---- worlds, copies and names

-- most spawns of a world, most copies and most names of a client
abbrev pub spawn_limit : ℕ
spawn_limit = 8192

abbrev pub copy_limit : ℕ
copy_limit = 8192

abbrev pub name_limit : ℕ
name_limit = 65536

-- players have numbers from 1 to this, and teams too
abbrev pub player_limit : ℕ
player_limit = 1000

abbrev pub team_limit : ℕ
team_limit = 64

-- most connections of a server
abbrev pub connection_limit : ℕ
connection_limit = 64

-- most bits that a tick may be given
abbrev pub budget_limit : ℕ
budget_limit = 1000000

-- ---- class tables

-- most classes of a table; most handles, calls and path segments of a class; most segments of a table
abbrev pub class_limit : ℕ
class_limit = 256

abbrev pub handle_limit : ℕ
handle_limit = 200

abbrev pub call_limit : ℕ
call_limit = 64

abbrev pub depth_limit : ℕ
depth_limit = 8

abbrev pub segment_limit : ℕ
segment_limit = 1024

-- most bytes of a name
abbrev pub name_bytes : ℕ
name_bytes = 31

-- most arguments of a call, and most bits of them where it is unreliable or reliable
abbrev pub argument_limit : ℕ
argument_limit = 16

abbrev pub unreliable_call_bits : ℕ
unreliable_call_bits = 6900

abbrev pub reliable_call_bits : ℕ
reliable_call_bits = 60000

-- greatest cull distance and greatest priority
abbrev pub cull_limit : ℕ
cull_limit = 50000

abbrev pub priority_limit : ℕ
priority_limit = 255

-- ---- files

-- most bytes of a class table, of a script and of one of its lines
abbrev pub table_bytes : ℕ
table_bytes = 1000000

abbrev pub script_bytes : ℕ
script_bytes = 67108864

abbrev pub line_bytes : ℕ
line_bytes = 16384
