use Rattle.dmr_hearing.proofs.hearing.hear_data_burst.Goals as goal

pub returns-in-Some-false-clause-only : goal.returns-in-Some-false-clause-only
returns-in-Some-false-clause-only c = λ data_burst is.
    c.own_data_burst.ensures.only data_burst.kind data_burst.information data_burst.link_control is.slot_type is.reads
