use Rattle.esc_sanitize.proofs.chain.sanitizing.Goals as goal

pub returns-clause-begins : goal.returns-clause-begins
returns-clause-begins g c = λ fresh.
    c.new.ensures.begins
    (c.new-hearing.ensures.begins c.chain.ensures (c.new-auditor.ensures.heard fresh)
    c.new-auditor.ensures.way)
