use Rattle.std.proofs.Common.{rules, ◌≡◌, ℕ, ◌≤◌, List, Bool, Some, None, Ok, length, refl, sym, ap, ◌∙◌, subst}
use Rattle.dmr_bits.specs.Bits.{bits_of_octets, octets_of}
use Rattle.dmr_bptc.specs.ProductWord.{information}
use Rattle.dmr_bptc.proofs.Decoded.{one_decoded}
use Rattle.dmr_rs.specs.Word.{octet_distance}
use Rattle.dmr_link.specs.Sealed.{masked, IsWithinOctet}
use Rattle.dmr_link.proofs.SealedForms.{near_word, near_itself, near_message, sealed_word, found_form, same_lc}
use Rattle.dmr_link.proofs.reading.lc_read.Goals as goal

same_some : (a b : List Bool) → Some a ≡ Some b → a ≡ b
same_some a b e = cc

-- ---- no product word
pub returns-in_default-clause-only : goal.returns-in_default-clause-only
returns-in_default-clause-only c = λ lc read.
    let same = one_decoded c.args.bits.now (Some read.message) None read.decoded c.in_default.ensures.decoded in cc

pub returns-in_default-clause-octet_undone : goal.returns-in_default-clause-octet_undone
returns-in_default-clause-octet_undone c = λ word sealed product damaged near is.
    let same = c.in_default.ensures.undone word product damaged in cc

-- ---- no word near
pub returns-in_default-rs_correct-clause-only : goal.returns-in_default-rs_correct-clause-only
returns-in_default-rs_correct-clause-only c = λ lc read.
    let same : read.message ≡ c.in-Some.message = same_some _ _ (one_decoded c.args.bits.now (Some read.message) (Some
    c.in-Some.message) read.decoded c.in-Some.ensures.decoded) in
    let found = near_word c.args.lc_use read.sealed c.in-Some.message c.octets.result c.masked.result c.rs_correct.result
    c.octets.ensures.value c.masked.ensures.value
    c.rs_correct.ensures.only read.is.sealed (subst (IsWithinOctet read.sealed) same read.near) in
    absurd (c.in_default-rs_correct.not-Some (masked c.args.lc_use (octets_of 12 read.sealed)) found)

pub returns-in_default-rs_correct-clause-fault : goal.returns-in_default-rs_correct-clause-fault
returns-in_default-rs_correct-clause-fault c = (
  c.in-Some.message,
  c.in-Some.ensures.decoded,
  λ sealed is near.
      let found = near_word c.args.lc_use sealed c.in-Some.message c.octets.result c.masked.result c.rs_correct.result
      c.octets.ensures.value c.masked.ensures.value
      c.rs_correct.ensures.only is near in
      c.in_default-rs_correct.not-Some (masked c.args.lc_use (octets_of 12 sealed)) found,
)

pub returns-in_default-rs_correct-clause-undone : goal.returns-in_default-rs_correct-clause-undone
returns-in_default-rs_correct-clause-undone c = λ word product damaged is.
    let same : information word ≡ c.in-Some.message = sym (same_some _ _ (c.in-Some.ensures.undone word product damaged)) in
    let near : IsWithinOctet (information word) c.in-Some.message = subst (IsWithinOctet (information word)) same (near_itself
    (information word)) in
    let found = near_word c.args.lc_use (information word) c.in-Some.message c.octets.result c.masked.result c.rs_correct.result
    c.octets.ensures.value c.masked.ensures.value
    c.rs_correct.ensures.only is near in
    c.in_default-rs_correct.not-Some (masked c.args.lc_use (octets_of 12 (information word))) found

pub returns-in_default-rs_correct-clause-octet_undone : goal.returns-in_default-rs_correct-clause-octet_undone
returns-in_default-rs_correct-clause-octet_undone c = λ word sealed product damaged near is.
    let same : information word ≡ c.in-Some.message = sym (same_some _ _ (c.in-Some.ensures.undone word product damaged)) in
    let found = near_word c.args.lc_use sealed c.in-Some.message c.octets.result c.masked.result c.rs_correct.result
    c.octets.ensures.value c.masked.ensures.value
    c.rs_correct.ensures.only is (subst (IsWithinOctet sealed) same near) in
    c.in_default-rs_correct.not-Some (masked c.args.lc_use (octets_of 12 sealed)) found

-- ---- the word that is near
pub returns-clause-lc : goal.returns-clause-lc
returns-clause-lc c =
    let word : List ℕ = c.in-Some-rs_correct.word in
    let lc_use = c.args.lc_use in
    let long : length word ≡ 12 = search rules in
    let under : c.masked.result ≡ masked lc_use (octets_of 12 c.in-Some.message) = c.masked.ensures.value ∙ ap (masked lc_use)
    c.octets.ensures.value in
    record {
      message = c.in-Some.message;
      sealed = bits_of_octets (masked lc_use word);
      decoded = c.in-Some.ensures.decoded;
      near = near_message lc_use word c.in-Some.message long c.fields_of.ensures.octets
          (let P : List ℕ → Type 0 = λ l. octet_distance word l ≤ 1 in subst P under c.in-Some-rs_correct.ensures.within.1);
      is = sealed_word lc_use c.fields_of.result word (bits_of_octets (masked lc_use word)) c.fields_of.ensures.fit long
          c.fields_of.ensures.octets
          c.in-Some-rs_correct.ensures.within.0 (sym c.fields_of.ensures.fields) refl;
    }

pub returns-clause-only : goal.returns-clause-only
returns-clause-only c = λ lc read.
    let same : read.message ≡ c.in-Some.message = same_some _ _ (one_decoded c.args.bits.now (Some read.message) (Some
    c.in-Some.message) read.decoded c.in-Some.ensures.decoded) in
    let found = near_word c.args.lc_use read.sealed c.in-Some.message c.octets.result c.masked.result c.rs_correct.result
    c.octets.ensures.value c.masked.ensures.value
    c.rs_correct.ensures.only read.is.sealed (subst (IsWithinOctet read.sealed) same read.near) in
    let mine = found_form c.args.lc_use c.fields_of.result read.sealed c.rs_correct.result c.in-Some-rs_correct.word
    c.fields_of.ensures.fit c.fields_of.ensures.fields
    c.in-Some-rs_correct.is found read.is.sealed in
    ap Ok (same_lc c.args.lc_use c.fields_of.result lc read.sealed mine read.is)

pub returns-clause-undone : goal.returns-clause-undone
returns-clause-undone c = λ word product damaged is.
    let same : information word ≡ c.in-Some.message = sym (same_some _ _ (c.in-Some.ensures.undone word product damaged)) in
    let near : IsWithinOctet (information word) c.in-Some.message = subst (IsWithinOctet (information word)) same (near_itself
    (information word)) in
    let found = near_word c.args.lc_use (information word) c.in-Some.message c.octets.result c.masked.result c.rs_correct.result
    c.octets.ensures.value c.masked.ensures.value
    c.rs_correct.ensures.only is near in
    found_form c.args.lc_use c.fields_of.result (information word) c.rs_correct.result c.in-Some-rs_correct.word
    c.fields_of.ensures.fit c.fields_of.ensures.fields
    c.in-Some-rs_correct.is found is

pub returns-clause-octet_undone : goal.returns-clause-octet_undone
returns-clause-octet_undone c = λ word sealed product damaged near is.
    let same : information word ≡ c.in-Some.message = sym (same_some _ _ (c.in-Some.ensures.undone word product damaged)) in
    let found = near_word c.args.lc_use sealed c.in-Some.message c.octets.result c.masked.result c.rs_correct.result
    c.octets.ensures.value c.masked.ensures.value
    c.rs_correct.ensures.only is (subst (IsWithinOctet sealed) same near) in
    found_form c.args.lc_use c.fields_of.result sealed c.rs_correct.result c.in-Some-rs_correct.word c.fields_of.ensures.fit
    c.fields_of.ensures.fields
    c.in-Some-rs_correct.is found is
