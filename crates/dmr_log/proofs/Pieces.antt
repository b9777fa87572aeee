-- The transmissions of a slot share out its frames.
use Rattle.std.proofs.Common.{◌≡◌, ℕ, ◌+◌, ◌-◌, ◌<◌, ◌^◌, Bool, true, false, cond, List, [], ◌∷◌, ◌++◌, length, map, count_by}
use Rattle.std.proofs.Common.{sum_by}
use Rattle.std.proofs.Common.{Option, Some, None, option_to_list, option_map, refl, sym, ap, ◌∙◌, subst, arith, append_assoc}
use Rattle.std.proofs.lemmas.List.{length-append}
use Rattle.std.proofs.lemmas.List.Sums.{sum_by-append, sum_by-cons, count_by-le-length}
use Rattle.dmr_log.specs.Pieces.{AreFollowed, AreSharedOut, AreTold, Portion, Rest, RepeatedFrame, TellsFrames, Whole}
use Rattle.dmr_log.specs.Pieces.{repeats_of, transmissions_of}
use Rattle.dmr_log.specs.Transmissions.{begun_in, ended_by, is_burst, belongs, plus_one, transmission_with}
use Rattle.dmr_log.specs.declared.checks.Checks.{Checks}
use Rattle.dmr_log.specs.declared.repeated.Repeated.{Repeated}
use Rattle.dmr_log.specs.declared.repeated.Repeated.TheVariants as repeated
use Rattle.dmr_log.specs.declared.transmission.Ended.{Ended}
use Rattle.dmr_log.specs.declared.transmission.Transmission.{Transmission}

-- 1. Counts that are not cut off.

more_counts : (b : Bool) (n : ℕ) → n < 2 ^ 32 - 1 → plus_one b n ≡ n + cond b 1 0
more_counts true n below = omega arith
more_counts false n below = omega arith

-- 2. A frame.

abbrev repeat_of : RepeatedFrame → Repeated
repeat_of frame = frame.0

-- a transmission with a frame more tells that too
told_more : (first : ℕ) (t : Transmission) (fs : List Repeated) (r : Repeated) (checks : Checks) → length fs < 2 ^ 32 - 1
    → TellsFrames first t fs → TellsFrames first (transmission_with t r checks) (fs ++ r ∷ [])
told_more first t fs r checks below tells =
    let long = length-append fs (r ∷ []) in
    let few = count_by-le-length is_burst fs in
    let frames = more_counts true t.span.frames (omega (arith, below, tells.frames)) in
    let bursts = more_counts (is_burst r) t.span.bursts (omega (arith, below, few, tells.bursts)) in
    let both = sum_by-append (λ x. cond (is_burst x) 1 0) fs (r ∷ []) in
    record {
      begins = tells.begins;
      frames = omega (arith, frames, tells.frames, long);
      bursts = bursts ∙ omega (arith, tells.bursts, both);
    }

-- what a frame begins: nothing where it repeats nothing, and else a transmission that tells the frame
pub Begins : ℕ → Repeated → Option Transmission → Type 0
Begins n r None = r ≡ repeated.Nothing
Begins n r (Some t) = TellsFrames n t (r ∷ [])

begins : (n : ℕ) (r : Repeated) (checks : Checks) → Begins n r (begun_in n r checks)
unfolding Begins
begins n repeated.Nothing checks = refl
begins n (repeated.CallHeader lc) checks = record { begins = refl; frames = refl; bursts = refl }
begins n (repeated.Place lc is_filled) checks = record { begins = refl; frames = refl; bursts = refl }
begins n (repeated.Terminator lc) checks = record { begins = refl; frames = refl; bursts = refl }
begins n (repeated.DataHeader head) checks = record { begins = refl; frames = refl; bursts = refl }
begins n (repeated.Block type) checks = record { begins = refl; frames = refl; bursts = refl }
begins n (repeated.Control kind) checks = record { begins = refl; frames = refl; bursts = refl }

-- 3. Frame after frame.

-- the transmission that is open tells the frames from one on, behind which the next frame has this number
IsOpen : Option Transmission → ℕ → List Repeated → ℕ → Type 0
IsOpen None first fs n = (fs ≡ []) × (first ≡ n)
IsOpen (Some t) first fs n = TellsFrames first t fs × (first + length fs ≡ n)

-- these frames are shared out, whatever is open in front of them
Shares : List RepeatedFrame → Type 0
Shares frames =
    (current : Option Transmission) (first : ℕ) (fs : List Repeated) (n : ℕ) (ended : List Transmission)
    (last : Option Transmission)
    → IsOpen current first fs n → n + length frames < 2 ^ 32 → AreFollowed current n frames ended last
    → AreSharedOut first (fs ++ map repeat_of frames) (ended ++ option_to_list last)

-- a frame that begins what comes behind it
from_begun : (frames : List RepeatedFrame) → Shares frames → (n : ℕ) (r : Repeated) (next : Option Transmission)
    (ended : List Transmission) (last : Option Transmission) → Begins n r next → n + 1 + length frames < 2 ^ 32
    → AreFollowed next (n + 1) frames ended last → AreSharedOut n (r ∷ map repeat_of frames) (ended ++ option_to_list last)
unfolding Shares Begins IsOpen
from_begun frames shares n r None ended last nothing below later =
    let rest = shares None (n + 1) [] (n + 1) ended last (refl, refl) below later in
    record {
      pieces = Rest ∷ rest.pieces;
      frames = ap (λ (l : List Repeated). repeated.Nothing ∷ l) rest.frames
          ∙ ap (λ (x : Repeated). x ∷ map repeat_of frames) (sym nothing);
      told = rest.told;
      tells = rest.tells;
    }
from_begun frames shares n r (Some t) ended last tells below later =
    shares (Some t) n (r ∷ []) (n + 1) ended last (tells, refl) below later

from_frame : (frames : List RepeatedFrame) → Shares frames → (n : ℕ) (r : Repeated) (checks : Checks) (next : Option Transmission)
    (ended : List Transmission) (last : Option Transmission) → next ≡ begun_in n r checks → n + 1 + length frames < 2 ^ 32
    → AreFollowed next (n + 1) frames ended last → AreSharedOut n (r ∷ map repeat_of frames) (ended ++ option_to_list last)
from_frame frames shares n r checks next ended last is below later =
    from_begun frames shares n r next ended last (subst (Begins n r) (sym is) (begins n r checks)) below later

-- a frame behind an open transmission, which is of it or not
behind : (frames : List RepeatedFrame) → Shares frames → (b : Bool) (first : ℕ) (fs : List Repeated) (n : ℕ) (t : Transmission)
    (r : Repeated) (checks : Checks) (one : Option Ended) (next : Option Transmission) (rest : List Transmission)
    (last : Option Transmission) → TellsFrames first t fs → first + length fs ≡ n → n + 1 + length frames < 2 ^ 32
    → ◌≡◌ {A = Option Ended × Option Transmission} (one, next) (cond b (None, Some (transmission_with t r checks))
    (Some (record { transmission = t; by = ended_by r }), begun_in n r checks))
    → AreFollowed next (n + 1) frames rest last
    → AreSharedOut first (fs ++ (r ∷ map repeat_of frames))
    ((option_to_list (option_map (λ (e : Ended). e.transmission) one) ++ rest) ++ option_to_list last)
unfolding Shares IsOpen
behind frames shares true first fs n t r checks one next rest last tells at below step later =
    let is_one : one ≡ None = ap (λ (p : Option Ended × Option Transmission). p.0) step in
    let is_next : next ≡ Some (transmission_with t r checks) = ap (λ (p : Option Ended × Option Transmission). p.1) step in
    let long = length-append fs (r ∷ []) in
    let shared = shares (Some (transmission_with t r checks)) first (fs ++ r ∷ []) (n + 1) rest last
    (told_more first t fs r checks (omega (arith, at, below)) tells, omega (arith, at, long)) below
    (subst (λ (x : Option Transmission). AreFollowed x (n + 1) frames rest last) is_next later) in
    let same : (fs ++ r ∷ []) ++ map repeat_of frames ≡ fs ++ (r ∷ map repeat_of frames) =
    append_assoc fs (r ∷ []) (map repeat_of frames) in
    let out = subst (λ (l : List Repeated). AreSharedOut first l (rest ++ option_to_list last)) same shared in
    subst (λ (x : Option Ended). AreSharedOut first (fs ++ (r ∷ map repeat_of frames))
    ((option_to_list (option_map (λ (e : Ended). e.transmission) x) ++ rest) ++ option_to_list last)) (sym is_one) out
behind frames shares false first fs n t r checks one next rest last tells at below step later =
    let is_one : one ≡ Some (record { transmission = t; by = ended_by r }) =
    ap (λ (p : Option Ended × Option Transmission). p.0) step in
    let is_next : next ≡ begun_in n r checks = ap (λ (p : Option Ended × Option Transmission). p.1) step in
    let shared = from_frame frames shares n r checks next rest last is_next below later in
    let out : AreSharedOut first (fs ++ (r ∷ map repeat_of frames)) (t ∷ (rest ++ option_to_list last)) = record {
      pieces = Whole t fs ∷ shared.pieces;
      frames = ap (λ (l : List Repeated). fs ++ l) shared.frames;
      told = ap (λ (l : List Transmission). t ∷ l) shared.told;
      tells = (tells, subst (λ (m : ℕ). AreTold m shared.pieces) (sym at) shared.tells);
    } in
    subst (λ (x : Option Ended). AreSharedOut first (fs ++ (r ∷ map repeat_of frames))
    ((option_to_list (option_map (λ (e : Ended). e.transmission) x) ++ rest) ++ option_to_list last)) (sym is_one) out

shares_all : (frames : List RepeatedFrame) → Shares frames
unfolding Shares IsOpen
shares_all [] None first fs n ended last (no_frames, at) below (none, same) =
    subst (λ (l : List Repeated). AreSharedOut first (l ++ []) (ended ++ option_to_list last)) (sym no_frames)
    (subst (λ (l : List Transmission). AreSharedOut first [] (l ++ option_to_list last)) (sym none)
    (subst (λ (x : Option Transmission). AreSharedOut first [] (option_to_list x)) (sym same)
    (record { pieces = []; frames = refl; told = refl; tells = tt })))
shares_all [] (Some t) first fs n ended last (tells, at) below (none, same) =
    subst (λ (l : List Transmission). AreSharedOut first (fs ++ []) (l ++ option_to_list last)) (sym none)
    (subst (λ (x : Option Transmission). AreSharedOut first (fs ++ []) (option_to_list x)) (sym same)
    (record { pieces = Whole t fs ∷ []; frames = refl; told = refl; tells = (tells, tt) }))
shares_all (frame ∷ frames) None first fs n ended last (no_frames, at) below (one, next, rest, step, told, later) =
    let shared = from_frame frames (shares_all frames) n frame.0 frame.1 next rest last step.1 (omega (arith, below)) later in
    let none : option_to_list (option_map (λ (e : Ended). e.transmission) one) ++ rest ≡ rest =
    ap (λ (x : Option Ended). option_to_list (option_map (λ (e : Ended). e.transmission) x) ++ rest) step.0 in
    subst (λ (l : List Repeated). AreSharedOut first (l ++ map repeat_of (frame ∷ frames)) (ended ++ option_to_list last))
    (sym no_frames)
    (subst (λ (l : List Transmission). AreSharedOut first (map repeat_of (frame ∷ frames)) (l ++ option_to_list last))
    (sym (told ∙ none))
    (subst (λ (m : ℕ). AreSharedOut m (map repeat_of (frame ∷ frames)) (rest ++ option_to_list last)) (sym at) shared))
shares_all (frame ∷ frames) (Some t) first fs n ended last (tells, at) below (one, next, rest, step, told, later) =
    subst (λ (l : List Transmission). AreSharedOut first (fs ++ map repeat_of (frame ∷ frames)) (l ++ option_to_list last))
    (sym told)
    (behind frames (shares_all frames) (belongs step.0 t.subject frame.0) first fs n t frame.0 frame.1 one next rest last tells at
    (omega (arith, below)) step.2 later)

-- 4. The laws.

-- frames that were followed from the first are shared out, each burst to one transmission, ended or open
pub each_burst_is_in_one : (frames : List RepeatedFrame) (ended : List Transmission) (last : Option Transmission)
    → length frames < 2 ^ 32 → AreFollowed None 0 frames ended last
    → AreSharedOut 0 (map repeat_of frames) (ended ++ option_to_list last)
unfolding Shares IsOpen
each_burst_is_in_one frames ended last below followed =
    shares_all frames None 0 [] 0 ended last (refl, refl) (omega (arith, below)) followed

-- pieces count what they repeat
bursts_of_pieces : (n : ℕ) (pieces : List Portion) → AreTold n pieces
    → sum_by (λ (t : Transmission). t.span.bursts) (transmissions_of pieces) ≡ count_by is_burst (repeats_of pieces)
bursts_of_pieces n [] told = refl
bursts_of_pieces n (Rest ∷ pieces) told = bursts_of_pieces (n + 1) pieces told
bursts_of_pieces n (Whole t repeats ∷ pieces) (tells, told) =
    let rest = bursts_of_pieces (n + length repeats) pieces told in
    let both = sum_by-append (λ x. cond (is_burst x) 1 0) repeats (repeats_of pieces) in
    let one = sum_by-cons (λ (x : Transmission). x.span.bursts) t (transmissions_of pieces) in
    one ∙ omega (arith, rest, tells.bursts) ∙ sym both

-- the bursts that these transmissions count are as many as the frames repeat
pub all_bursts_are_told : (frames : List RepeatedFrame) (ended : List Transmission) (last : Option Transmission)
    → length frames < 2 ^ 32 → AreFollowed None 0 frames ended last
    → sum_by (λ (t : Transmission). t.span.bursts) (ended ++ option_to_list last) ≡ count_by is_burst (map repeat_of frames)
all_bursts_are_told frames ended last below followed =
    let shared = each_burst_is_in_one frames ended last below followed in
    ap (sum_by (λ (t : Transmission). t.span.bursts)) (sym shared.told) ∙ bursts_of_pieces 0 shared.pieces shared.tells
    ∙ ap (count_by is_burst) shared.frames
