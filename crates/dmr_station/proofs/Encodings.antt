-- The octets of slots: there is one encoding.
use Rattle.std.proofs.Common.{◌≡◌, ℕ, suc, ◌+◌, ◌<◌, List, [], ◌∷◌, ◌++◌, length, Option, Some, None, refl, sym, ap, ◌∙◌, subst}
use Rattle.std.proofs.Common.{arith, slice_index_or, ◌==◌, ◌%◌, Bool}
use Rattle.std.specs.List.{All}
use Rattle.dmr_bits.specs.Bits.{bits_of_octets}
use Rattle.dmr_bits.proofs.OctetFronts.{length-bits_of_octets}
use Rattle.dmr_bits.proofs.Spelled.{same_octets}
use Rattle.dmr_burst.specs.Cach.{IsCach}
use Rattle.dmr_burst.specs.declared.sync.Side.TheVariants.{Bs}
use Rattle.dmr_burst.proofs.Same as same
use Rattle.dmr_burst.proofs.Interleaving.{one_announcement}
use Rattle.dmr_embedded.proofs.ShortUnique.{one_short}
use Rattle.dmr_station.specs.declared.announcing.Message.{Message}
use Rattle.dmr_station.specs.Sent.{DownlinkBurst}
use Rattle.dmr_station.specs.Sent.{fragment_lcss, IsCachOf, IsSentAs, AreSentAs}

octets_from_bits : (xs ys : List ℕ) → All (λ octet. octet < 256) xs → All (λ octet. octet < 256) ys
    → bits_of_octets xs ≡ bits_of_octets ys → xs ≡ ys
octets_from_bits xs ys p q e =
    let long = ap length e in
    same_octets xs ys p q (omega (arith, length-bits_of_octets xs, length-bits_of_octets ys, long)) e

one_cach : (busy : Bool) (m : Message) (place : ℕ) (a b : List ℕ) → All (λ octet. octet < 256) a → All (λ octet. octet < 256) b
    → IsCachOf busy m place a → IsCachOf busy m place b → a ≡ b
one_cach busy m place a b p q u v =
    let same = one_short m.slco m.body u.0 v.0 u.1 v.1 in
    let fields = subst (λ (fragments : List (List Bool)). IsCach busy (place % 2 == 1) (fragment_lcss place)
    (slice_index_or fragments (place % 4) []) (bits_of_octets a)) same u.2 in
    octets_from_bits a b p q (one_announcement busy (place % 2 == 1) (fragment_lcss place) (slice_index_or v.0 (place % 4) [])
    (bits_of_octets a) (bits_of_octets b) fields v.2)

same_pair : (a b : List ℕ × List ℕ) → a.0 ≡ b.0 → a.1 ≡ b.1 → Some a ≡ Some b
same_pair (a0, a1) (b0, b1) e f = cc

one_slot : (place : ℕ) (slot : Option DownlinkBurst) (a b : Option (List ℕ × List ℕ)) → IsSentAs place slot a
    → IsSentAs place slot b → a ≡ b
one_slot place None a b u v = u ∙ sym v
one_slot place (Some d) None b u v = absurd u
one_slot place (Some d) (Some a) None u v = absurd v
one_slot place (Some d) (Some a) (Some b) u v =
    same_pair a b (one_cach d.is_repeated d.message place a.0 b.0 u.cach_octets v.cach_octets u.announces v.announces)
    (octets_from_bits a.1 b.1 u.burst_octets v.burst_octets
    (same.one_encoding d.burst Bs (bits_of_octets a.1) (bits_of_octets b.1) u.encodes v.encodes))

-- what slots send has one encoding alone, from a place of the downlink on
pub one_encoding : (place : ℕ) (slots : List (Option DownlinkBurst)) (a b : List (Option (List ℕ × List ℕ)))
    → AreSentAs place slots a → AreSentAs place slots b → a ≡ b
one_encoding place [] [] [] u v = refl
one_encoding place [] (a ∷ as') b u v = absurd u
one_encoding place [] [] (b ∷ bs) u v = absurd v
one_encoding place (slot ∷ slots) [] b u v = absurd u
one_encoding place (slot ∷ slots) (a ∷ as') [] u v = absurd v
one_encoding place (slot ∷ slots) (a ∷ as') (b ∷ bs) u v =
    let head = one_slot place slot a b u.0 v.0 in
    let tail = one_encoding (place + 1) slots as' bs u.1 v.1 in
    cc

-- ---- slots one after the other
pub encoded-append : (place : ℕ) (ds es : List (Option DownlinkBurst)) (a b : List (Option (List ℕ × List ℕ)))
    → AreSentAs place ds a → AreSentAs (place + length ds) es b
    → AreSentAs place (ds ++ es) (a ++ b)
encoded-append place [] es [] b u v = let e : place + 0 ≡ place = omega arith in rw e at v
encoded-append place [] es (a ∷ as') b u v = absurd u
encoded-append place (d ∷ ds) es [] b u v = absurd u
encoded-append place (d ∷ ds) es (a ∷ as') b u v =
    let e : place + suc (length ds) ≡ place + 1 + length ds = omega arith in
    (u.0, encoded-append (place + 1) ds es as' b u.1 (rw e at v))
