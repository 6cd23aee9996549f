use Rattle.rv_runtime.proofs.Working.{start_leads}
use Rattle.rv_runtime.proofs.laws.start_leads.Goals as goal

pub returns : goal.returns
returns c = start_leads
