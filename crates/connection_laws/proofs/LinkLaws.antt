-- The laws between two ends, each both ways.
use Rattle.std.proofs.Common.{◌≡◌, refl, sym}
use Rattle.connection_model.specs.Feed.{End, Past}
use Rattle.connection_model.specs.Windows.{received_on}
use Rattle.connection_laws.specs.Link.{IsLink}
use Rattle.connection_laws.specs.Delivered.{ReadsRight, AppliesPrefixes, ReceivesPrefixes, NeverOverruns, NeverMisjoins}
use Rattle.connection_laws.proofs.Transfer.{good}
use Rattle.connection_laws.proofs.LinkedEnds.{Both, turned, both, left_run, right_run, reads_right}
use Rattle.connection_laws.proofs.Prefixes.{applied_prefix}
use Rattle.connection_laws.proofs.PartsJoin.{receives}
use Rattle.connection_laws.proofs.Overrun.{no_overrun}
use Rattle.connection_laws.proofs.PartsFit.{no_misjoin}

module _ (left right : End) (l r : Past) (same : left.version ≡ right.version) (link : IsLink left right l r) where
  there : Both left.version l r
  there = both left.version left right refl (sym same) l r link

  back : Both left.version r l
  back = turned left.version l r (both left.version left right refl (sym same) l r link)

  pub reads_there : ReadsRight l r
  reads_there = reads_right left.version left l r (left_run left right l r link) there

  pub reads_back : ReadsRight r l
  reads_back = reads_right left.version right r l (right_run left right l r link) back

  pub applies_there : AppliesPrefixes l r
  applies_there ch = applied_prefix l ch (received_on r ch) (good left.version left l r (left_run left right l r link) there.out ch)

  pub applies_back : AppliesPrefixes r l
  applies_back ch = applied_prefix r ch (received_on l ch) (good left.version right r l (right_run left right l r link) back.out ch)

  pub receives_there : ReceivesPrefixes l r
  receives_there = receives left l r (left_run left right l r link) applies_there

  pub receives_back : ReceivesPrefixes r l
  receives_back = receives right r l (right_run left right l r link) applies_back

  pub overruns_there : NeverOverruns l r
  overruns_there = no_overrun left l r (left_run left right l r link) left.version there.out

  pub overruns_back : NeverOverruns r l
  overruns_back = no_overrun right r l (right_run left right l r link) left.version back.out

  pub misjoins_there : NeverMisjoins l r
  misjoins_there = no_misjoin left l r (left_run left right l r link) applies_there

  pub misjoins_back : NeverMisjoins r l
  misjoins_back = no_misjoin right r l (right_run left right l r link) applies_back
