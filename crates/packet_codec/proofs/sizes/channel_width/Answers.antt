use Rattle.std.proofs.Common.{sym}
use Rattle.protocol_laws.proofs.FieldLengths.{channel_13, channel_14, packed_8, packed_16, packed_24}
use Rattle.packet_codec.proofs.sizes.channel_width.Goals as goal

pub returns-then-channel-lt2048-clause-width : goal.returns-then-channel-lt2048-clause-width
returns-then-channel-lt2048-clause-width c = rw c.in-One.is (sym (channel_14 c.args.channel c.if-channel-lt2048.true))

pub returns-else-channel-lt2048-clause-width : goal.returns-else-channel-lt2048-clause-width
returns-else-channel-lt2048-clause-width c = rw c.in-One.is (sym (channel_13 c.args.channel c.if-channel-lt2048.false))

pub returns-then-channel-lt128-clause-width : goal.returns-then-channel-lt128-clause-width
returns-then-channel-lt128-clause-width c = rw c.in-Two.is (sym (packed_8 c.args.channel c.if-channel-lt128.true))

pub returns-then-channel-lt16384-clause-width : goal.returns-then-channel-lt16384-clause-width
returns-then-channel-lt16384-clause-width c = rw c.in-Two.is (sym (packed_16 c.args.channel c.if-channel-lt128.false c.if-channel-lt16384.true))

pub returns-else-channel-lt16384-clause-width : goal.returns-else-channel-lt16384-clause-width
returns-else-channel-lt16384-clause-width c = rw c.in-Two.is (sym (packed_24 c.args.channel c.if-channel-lt16384.false (rw c.in-Two.is at c.requires)))
