-- What the slots of a try send, part by part.
use Rattle.std.proofs.Common.{◌≡◌, ℕ, zero, suc, ◌+◌, ◌-◌, ◌<◌, ◌≤◌, Bool, true, false, List, [], ◌∷◌, map, length}
use Rattle.std.proofs.Common.{arith, refl, ap, sym, ◌∙◌, subst, Option, Some, None, get_or, slice_get, Bor, All}
use Rattle.std.specs.List.{AllZip}
use Rattle.std.specs.Option.{option_copied}
use Rattle.std.proofs.lemmas.List.Elements.{All-get_or}
use Rattle.std.proofs.lemmas.Option.{get_or_from_slice_get, slice_get_within}
use Rattle.std.proofs.lemmas.List.{length-map}
use Rattle.std.proofs.lemmas.Slice.Zip.{AllZip-long}
use Rattle.dmr_burst.specs.DataTypes.{csbk, data_header}
use Rattle.dmr_data.specs.Block.{IsWrittenBlock}
use Rattle.dmr_data.specs.declared.block.Block.{Block}
use Rattle.dmr_data.specs.declared.rate.Rate.{Rate}
use Rattle.dmr_making.specs.Information.{kind_at_rate}
use Rattle.dmr_hearing.specs.Slots.{SentSlot, Silent, Data}
use Rattle.dmr_making.proofs.CallSlots.{none_past}
use Rattle.dmr_making.proofs.Standing.{at_left, at_right, at_map, at_past}
use Rattle.dmr_making.specs.Information.{IsCsbkInformation}
use Rattle.dmr_making.specs.Standing.{HoldsAt}
use Rattle.dmr_making.specs.Tries.{TryForms, AreTryForms, counts_down, preamble_of, block_slots, try_slots}
use Rattle.dmr_making.specs.declared.tries.SentTry.{SentTry}

-- what stands beside what is read of another list
at_zip : {A B : Type 0} (P : B → Type 0) (R : A → B → Type 0) (xs : List A) (ys : List B) (k : ℕ) (x : A) → AllZip R xs ys
    → slice_get xs k ≡ Some x → ((y : B) → R x y → P y) → HoldsAt P ys k
at_zip P R [] ys k x z e h = absurd (cc)
at_zip P R (a ∷ xs) [] k x z e h = tt
at_zip P R (a ∷ xs) (y ∷ ys) zero x z e h = let same : a ≡ x = cc in h y (subst (λ (i : _). R i y) same z.0)
at_zip P R (a ∷ xs) (y ∷ ys) (suc k) x z e h = at_zip P R xs ys k x z.1 e h

-- how many bursts follow a preamble
counts_at : (n b k : ℕ) → k < n → slice_get (counts_down n b) k ≡ Some (n - k + b)
counts_at zero b k lt = absurd (omega arith)
counts_at (suc n) b zero lt = let e : suc n + b ≡ suc n - 0 + b = omega arith in ap (λ (x : ℕ). Some x) e
counts_at (suc n) b (suc k) lt =
    let e : n - k + b ≡ suc n - suc k + b = omega arith in
    counts_at n b k (omega arith) ∙ ap (λ (x : ℕ). Some x) e

-- there are as many as preambles
length_counts : (n b : ℕ) → length (counts_down n b) ≡ n
length_counts zero b = refl
length_counts (suc n) b = let k = length_counts n b in omega (arith, k)

-- there are as many of them as are sent
length_preambles : (t : SentTry) (preambles : ℕ) (presence : List Bool) (forms : TryForms) → AreTryForms t preambles presence forms
    → length (map (λ (information : List Bool). Data csbk information None) forms.preambles) ≡ preambles
length_preambles t preambles presence forms p =
    length-map forms.preambles (λ (information : List Bool). Data csbk information None)
    ∙ AllZip-long (λ left information. IsCsbkInformation (preamble_of t left) information)
    (counts_down preambles (length presence)) forms.preambles p.preambles
    ∙ length_counts preambles (length presence)

-- a preamble
pub preamble_at : (P : SentSlot → Type 0) (t : SentTry) (preambles : ℕ) (presence : List Bool) (forms : TryForms) (place : ℕ)
    → AreTryForms t preambles presence forms → place < preambles
    → ((information : List Bool) → IsCsbkInformation (preamble_of t (preambles - place + length presence)) information
    → P (Data csbk information None))
    → HoldsAt P (try_slots t preambles presence forms) place
preamble_at P t preambles presence forms place p lt here =
    let long = length_preambles t preambles presence forms p in
    at_left P (map (λ (information : List Bool). Data csbk information None) forms.preambles)
    (Data data_header forms.header None ∷ block_slots t.rate presence forms.blocks) place (omega (arith, long, lt))
    (at_map P (λ (information : List Bool). Data csbk information None) forms.preambles place
    (at_zip (λ (information : List Bool). P (Data csbk information None))
    (λ left information. IsCsbkInformation (preamble_of t left) information)
    (counts_down preambles (length presence)) forms.preambles place
    (preambles - place + length presence) p.preambles
    (counts_at preambles (length presence) place lt) here))

-- the header
pub header_at : (P : SentSlot → Type 0) (t : SentTry) (preambles : ℕ) (presence : List Bool) (forms : TryForms) (place : ℕ)
    → AreTryForms t preambles presence forms → place ≡ preambles → P (Data data_header forms.header None)
    → HoldsAt P (try_slots t preambles presence forms) place
header_at P t preambles presence forms place p e here =
    let long = length_preambles t preambles presence forms p in
    at_right P (map (λ (information : List Bool). Data csbk information None) forms.preambles)
    (Data data_header forms.header None ∷ block_slots t.rate presence forms.blocks) 0 place (omega (arith, long, e)) here

-- a block, by its place among these
pub behind_header : (P : SentSlot → Type 0) (t : SentTry) (preambles : ℕ) (presence : List Bool) (forms : TryForms) (place : ℕ)
    → AreTryForms t preambles presence forms → (place < preambles → ⊥) → (place ≡ preambles → ⊥)
    → HoldsAt P (block_slots t.rate presence forms.blocks) (place - preambles - 1)
    → HoldsAt P (try_slots t preambles presence forms) place
behind_header P t preambles presence forms place p past other here =
    let long = length_preambles t preambles presence forms p in
    at_right P (map (λ (information : List Bool). Data csbk information None) forms.preambles)
    (Data data_header forms.header None ∷ block_slots t.rate presence forms.blocks)
    (suc (place - preambles - 1)) place (omega (arith, long, past, other)) here

-- a block is there or absent
pub block_at : (P : SentSlot → Type 0) (rate : Rate) (presence : List Bool) (forms : List (List Bool)) (k : ℕ)
    → (get_or presence k false ≡ true
    → HoldsAt (λ (information : List Bool). P (Data (kind_at_rate rate) information None)) forms k)
    → (get_or presence k false ≡ false → P Silent)
    → HoldsAt P (block_slots rate presence forms) k
block_at P rate [] forms k here silent = tt
block_at P rate (b ∷ bs) [] k here silent = tt
block_at P rate (true ∷ bs) (f ∷ fs) zero here silent = here refl
block_at P rate (false ∷ bs) (f ∷ fs) zero here silent = silent refl
block_at P rate (b ∷ bs) (f ∷ fs) (suc k) here silent = block_at P rate bs fs k here silent

-- a block that is sent
pub sent_block : (P : SentSlot
    → Type 0) (t : SentTry) (preambles : ℕ) (presence : List Bool) (forms : TryForms) (place : ℕ) (block : Block)
    → AreTryForms t preambles presence forms → slice_get t.blocks place ≡ Some block → get_or presence place false ≡ true
    → ((information : List Bool) → IsWrittenBlock t.rate block information → P (Data (kind_at_rate t.rate) information None))
    → HoldsAt P (block_slots t.rate presence forms.blocks) place
sent_block P t preambles presence forms place block p e there here =
    block_at P t.rate presence forms.blocks place
    (λ q. at_zip (λ (information : List Bool). P (Data (kind_at_rate t.rate) information None))
    (λ block information. IsWrittenBlock t.rate block information) t.blocks forms.blocks place block p.blocks e here)
    (λ q. absurd (cc (there, q)))

-- no block past the last
pub no_block : (P : SentSlot → Type 0) (t : SentTry) (preambles : ℕ) (presence : List Bool) (forms : TryForms) (place : ℕ)
    → AreTryForms t preambles presence forms → slice_get t.blocks place ≡ None → get_or presence place false ≡ true
    → HoldsAt P (block_slots t.rate presence forms.blocks) place
no_block P t preambles presence forms place p e there =
    let past : length t.blocks ≤ place = none_past t.blocks place e in
    let long : length forms.blocks ≡ length t.blocks =
    AllZip-long (λ block information. IsWrittenBlock t.rate block information) t.blocks forms.blocks p.blocks in
    block_at P t.rate presence forms.blocks place
    (λ q. at_past (λ (information : List Bool). P (Data (kind_at_rate t.rate) information None)) forms.blocks place
    (omega (arith, past, long)))
    (λ q. absurd (cc (there, q)))

-- what is copied of a reference that was read
pub copied : {X : Type 0} (found : Option (Bor X)) (read : Option X) (block : Bor X) → option_copied found ≡ read
    → found ≡ Some block → read ≡ Some block.now
copied found read block p q = sym p ∙ ap option_copied q

-- Where nothing was found, nothing is read.
pub copied_none : {X : Type 0} (found : Option (Bor X)) (read : Option X) → option_copied found ≡ read → found ≡ None
    → read ≡ None
copied_none found read p q = sym p ∙ ap option_copied q

-- what holds of each holds of what is read
pub fit_at : {X : Type 0} (P : X → Type 0) (xs : List X) (k : ℕ) (x : X) → All P xs → slice_get xs k ≡ Some x → P x
fit_at P xs k x all e =
    subst P (get_or_from_slice_get xs k x x e) (All-get_or P xs k x (slice_get_within xs k x e) all)
