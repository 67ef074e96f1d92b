use Rattle.std.proofs.Common.{rules, ◌≤◌, length}
use Rattle.unet.proofs.Reading.{whole}
use Rattle.unet.proofs.read_all.read_all.Goals as goal

pub returns-in-Ok-2-clause-whole : goal.returns-in-Ok-2-clause-whole
returns-in-Ok-2-clause-whole g c =
    let most : length c.from_vec.result ≤ 67108864 = search rules in
    let read = rw (c.take-reader.ensures.limit, c.take-reader.ensures.inner, c.new-bytes.ensures.items) at c.in-Ok-2.ensures.bytes in
    whole (g.R.Read.remaining c.args.reader) c.from_vec.result 67108864 (rw c.from_vec.ensures read) most
