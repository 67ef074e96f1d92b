use Rattle.payload_writing.proofs.Guids.{may_export, may_export_part}
use Rattle.payload_writing.proofs.laws.path_may_be_exported.Goals as goal

pub returns-clause-whole : goal.returns-clause-whole
returns-clause-whole c = may_export

pub returns-clause-part : goal.returns-clause-part
returns-clause-part c = may_export_part
