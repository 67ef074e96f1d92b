use Rattle.rand_pcg.specs.Lcg.{started, increment_of}
use Rattle.rand_pcg.specs.Pcg.{multiplier_64}
use Rattle.sample_script.specs.SampleScript.{sample_lines}
use Rattle.sample_script.proofs.Writing.{from_nothing}
use Rattle.sample_script.proofs.sample.sample_script.Goals as goal

pub returns : goal.returns
returns c =
    from_nothing (sample_lines c.args.ticks) (started 64 multiplier_64 c.args.ticks (increment_of 64 1))
    c.new-sample.result c.lines.new.sample c.new-sample.ensures.text c.new-sample.ensures.numbers c.in_ok-lines.ensures
