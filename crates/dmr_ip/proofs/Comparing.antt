-- Octets with the payload of a datagram are that datagram exactly where they begin with its headers.
use Rattle.std.proofs.Common.{◌≡◌, ℕ, ◌≤◌, ◌&&◌, List, [], ◌∷◌, ◌++◌, length, take, drop, true, refl, sym, ap, ◌∙◌, arith}
use Rattle.std.specs.Prelude.{nat_eq}
use Rattle.std.specs.Str.{bytes_eq}
use Rattle.std.proofs.Math.Bool.{and_assoc, and-true}
use Rattle.std.proofs.lemmas.List.{length-append, length-take-le, take-append-drop}
use Rattle.std.proofs.Math.Seq.{take-add}
use Rattle.std.proofs.lemmas.Slice.Eq.{bytes_eq-Decides}

-- two lists are equal where their fronts and the rests are
bytes_eq-append : (xs ys one other : List ℕ) → length xs ≡ length ys → bytes_eq (xs ++ one) (ys ++ other) ≡ (bytes_eq xs ys &&
    bytes_eq one other)
bytes_eq-append [] [] one other e = refl
bytes_eq-append [] (y ∷ ys) one other e = cc
bytes_eq-append (x ∷ xs) [] one other e = cc
bytes_eq-append (x ∷ xs) (y ∷ ys) one other e =
    ap (λ same. nat_eq x y && same) (bytes_eq-append xs ys one other (omega (arith, e)))
    ∙ sym (and_assoc (nat_eq x y) (bytes_eq xs ys) (bytes_eq one other))

bytes_eq-self : (xs : List ℕ) → bytes_eq xs xs ≡ true
bytes_eq-self xs = (bytes_eq-Decides xs xs).1 refl

-- octets with the payload of a datagram are equal to it where they begin with its headers
pub bytes_eq-headers : (octets ip udp payload datagram : List ℕ) → 28 ≤ length octets → length ip ≡ 20 → length udp ≡ 8 → payload
    ≡ drop 28 octets → ip ++ udp ++ payload ≡ datagram → (bytes_eq (take 20 octets) ip && bytes_eq (take 8 (drop 20 octets)) udp) ≡
    bytes_eq octets datagram
bytes_eq-headers octets ip udp payload datagram h i u p d =
    let front = take 20 octets in
    let behind = take 8 (drop 20 octets) in
    let headers : take 28 octets ≡ front ++ behind = take-add 20 8 octets in
    let ip_length : length front ≡ length ip = length-take-le 20 octets (omega (arith, h)) ∙ sym i in
    let headers_length : length (front ++ behind) ≡ length (ip ++ udp) =
    ap length (sym headers) ∙ length-take-le 28 octets h ∙ sym (simp (length-append, i, u) refl) in
    let whole : octets ≡ front ++ behind ++ payload =
    sym (take-append-drop 28 octets)
    ∙ ap (λ start. start ++ drop 28 octets) headers
    ∙ ap (λ rest. front ++ behind ++ rest) (sym p) in
    let parts : bytes_eq (front ++ behind ++ payload) (ip ++ udp ++ payload) ≡ (bytes_eq front ip && bytes_eq behind udp) =
    bytes_eq-append (front ++ behind) (ip ++ udp) payload payload headers_length
    ∙ ap (λ same. bytes_eq (front ++ behind) (ip ++ udp) && same) (bytes_eq-self payload)
    ∙ and-true (bytes_eq (front ++ behind) (ip ++ udp))
    ∙ bytes_eq-append front ip behind udp ip_length in
    sym parts ∙ ap (λ all. bytes_eq all (ip ++ udp ++ payload)) (sym whole) ∙ ap (bytes_eq octets) d
