use Rattle.sender_turns.proofs.Unknown.{needed_is, exports_are}
use Rattle.sender_turns.proofs.opening.needed_is_exported.Goals as goal

pub returns-clause-needed : goal.returns-clause-needed
returns-clause-needed c = λ segments class past known places. needed_is segments past known class.path places

pub returns-clause-exports : goal.returns-clause-exports
returns-clause-exports c = λ segments guids actor class values g. exports_are segments guids g
