use Rattle.std.proofs.Common.{arith}
use Rattle.rd_trace.proofs.StartLemmas.{on_ok, parts_spelled}
use Rattle.rd_trace.proofs.starts.parts_json.Goals as goal

pub returns-clause-spelled : goal.returns-clause-spelled
returns-clause-spelled g c = grind (arith, on_ok, parts_spelled)
