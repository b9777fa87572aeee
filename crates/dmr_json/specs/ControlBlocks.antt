-- What the object of a control signalling block says of its meaning.
use Rattle.std.specs.Prelude.{ℕ, List, [], ◌∷◌, codes}
use Rattle.dmr_csbk.specs.declared.meaning.ControlMeaning.{ControlMeaning}
use Rattle.dmr_csbk.specs.declared.meaning.ControlMeaning.TheVariants as meaning
use Rattle.dmr_csbk.specs.declared.views.BsDownAct.{BsDownAct}
use Rattle.dmr_csbk.specs.declared.views.Preamble.{Preamble}
use Rattle.dmr_json.specs.Values.{behind, bit, keyed, keyed_number, object}

-- what a preamble means
abbrev pub preamble_object : Preamble → List ℕ
preamble_object p = object (keyed_number (codes "data") (bit p.packet) ∷ keyed_number (codes "group") (bit p.group)
    ∷ keyed_number (codes "left") p.left ∷ keyed_number (codes "target") p.target ∷ keyed_number (codes "source") p.source ∷ [])

-- what the request for a base station means
abbrev pub activation_object : BsDownAct → List ℕ
activation_object request = object (keyed_number (codes "bs") request.bs ∷ keyed_number (codes "source") request.source ∷ [])

-- the key for what a block means, behind others, where it has a meaning
abbrev pub meaning_key : ControlMeaning → List ℕ
meaning_key (meaning.BsDownAct request) = behind (keyed (codes "activation") (activation_object request))
meaning_key (meaning.Preamble p) = behind (keyed (codes "preamble") (preamble_object p))
meaning_key meaning.Other = []
