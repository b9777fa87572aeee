-- A slot is heard in one way.
use Rattle.std.proofs.Common.{◌≡◌, ℕ, List, Bool, true, false, Option, Some, None, IfSome, IsTrue, refl, sym, ◌∙◌}
use Rattle.dmr_bits.specs.Bits.{bits_of_octets}
use Rattle.dmr_burst.specs.Emb.{HasEmb}
use Rattle.dmr_burst.specs.declared.emb.Emb.{Emb}
use Rattle.dmr_hearing.specs.Hearing.{IsHeardData, IsHeardBurst, Hears}
use Rattle.dmr_hearing.specs.declared.heard.DataBurst.{DataBurst}
use Rattle.dmr_hearing.specs.declared.heard.Heard.{Heard}

-- the one thing that is so, where it is found within and alone
one_answer : {A : Type 0} (P : A → Type 0) (x y : Option A) → IfSome x P → ((a : A) → P a → x ≡ Some a) → IfSome y P
    → ((a : A) → P a → y ≡ Some a) → x ≡ y
one_answer P None None within only within' only' = refl
one_answer P None (Some b) within only within' only' = only b within'
one_answer P (Some a) y within only within' only' = sym (only' a within)

one_truth : (P : Type 0) (x y : Bool) → (IsTrue x → P) → (P → IsTrue x) → (IsTrue y → P) → (P → IsTrue y) → x ≡ y
one_truth P true y within only within' only' = sym (only' (within refl))
one_truth P false true within only within' only' = only (within' refl)
one_truth P false false within only within' only' = refl

heard_by : (d d' : Option DataBurst) (v v' : Bool) (e e' : Option Emb) (n n' : ℕ) (o o' : List Bool) → d ≡ d' → v ≡ v' → e ≡ e'
    → n ≡ n' → o ≡ o'
    → ◌≡◌ {A = Heard} (record { data_burst = d; voice = v; emb = e; embedded = n; vocoder = o })
    (record { data_burst = d'; voice = v'; emb = e'; embedded = n'; vocoder = o' })
heard_by d d' v v' e e' n n' o o' p q r s t = cc

one_burst : (colour : ℕ) (bits : List Bool) (a b : Heard) → IsHeardBurst colour bits a → IsHeardBurst colour bits b → a ≡ b
one_burst colour bits a b p q =
    heard_by a.data_burst b.data_burst a.voice b.voice a.emb b.emb a.embedded b.embedded a.vocoder b.vocoder
    (one_answer (λ (data_burst : DataBurst). IsHeardData colour data_burst bits) a.data_burst b.data_burst p.data_burst_within
    p.data_burst_only q.data_burst_within
    q.data_burst_only)
    (one_truth _ a.voice b.voice p.voice.0 p.voice.1 q.voice.0 q.voice.1)
    (one_answer (λ (emb : Emb). HasEmb emb bits) a.emb b.emb p.emb_within p.emb_only q.emb_within q.emb_only)
    (p.embedded ∙ sym q.embedded) (p.vocoder ∙ sym q.vocoder)

-- whatever two things a slot is heard as, they are the same
pub one_hearing : (colour : ℕ) (slot : Option (List ℕ)) (a b : Heard) → Hears colour slot a → Hears colour slot b → a ≡ b
one_hearing colour None a b p q = p ∙ sym q
one_hearing colour (Some octets) a b p q = one_burst colour (bits_of_octets octets) a b p.1 q.1
