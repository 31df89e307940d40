-- `output::Output::refusal` meets its contract.
use Rattle.commands.proofs.TextLaws.{put_refusal}
use Rattle.commands.proofs.output.Output.refusal.Goals as goal

pub returns : goal.returns
returns c = search put_refusal
