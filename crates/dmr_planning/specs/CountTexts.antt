-- What is printed of what was made of a script: each count behind its name, with a space between each two words.
use Rattle.std.specs.Prelude.{ℕ, List, [], ◌∷◌, codes, decimal}
use Rattle.std.specs.List.{join_with_byte}
use Rattle.dmr_planning.specs.declared.plan.Made.{Made}

abbrev pub made_text : Made → List ℕ
made_text m = join_with_byte 32 (codes "frames" ∷ decimal m.frames ∷ codes "slot-1" ∷ decimal m.first
    ∷ codes "slot-2" ∷ decimal m.second ∷ codes "transmissions" ∷ decimal m.transmissions
    ∷ codes "datagrams" ∷ decimal m.datagrams ∷ [])
