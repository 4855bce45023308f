use Rattle.escnorm.proofs.run.normalise_in.Goals as goal

pub returns-in-AsItReads-clause-read_all : goal.returns-in-AsItReads-clause-read_all
returns-in-AsItReads-clause-read_all g c = c.normalise_stream.ensures.holds.read_all
