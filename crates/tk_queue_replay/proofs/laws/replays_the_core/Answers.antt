use Rattle.tk_queue_replay.proofs.ReplaySteps as lemma
use Rattle.tk_queue_replay.proofs.laws.replays_the_core.Goals as goal

pub returns-clause-moments : goal.returns-clause-moments
returns-clause-moments c = lemma.replays_core

pub returns-clause-faulty : goal.returns-clause-faulty
returns-clause-faulty c = lemma.faulty_has_no_item
