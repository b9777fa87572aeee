-- Information that is read by what it holds.
use Rattle.std.proofs.Common.{◌≡◌, ℕ, List, Bool, Option, Some, None, Ok, Err, Result, sym, ap, ◌∙◌, subst, refl}
use Rattle.dmr_bits.specs.Bits.{octets_of}
use Rattle.dmr_bptc.specs.Decoding.{IsDecoded}
use Rattle.dmr_bptc.proofs.Decoded.{one_decoded, undone}
use Rattle.dmr_bptc.proofs.Existing.{decoded_somehow}
use Rattle.dmr_bptc.proofs.Written.{one_written}
use Rattle.dmr_checks.specs.Sealed.{IsSealed}
use Rattle.dmr_checks.specs.declared.sealing.Mask.{Mask}
use Rattle.dmr_hearing.specs.Damage.{Sends, IsDamagedPayload}
use Rattle.dmr_hearing.specs.Hearing.{Reads}
use Rattle.dmr_bptc.specs.ProductWord.{IsWritten}
use Rattle.dmr_hearing.specs.Reading.{IsReading}
use Rattle.dmr_hearing.specs.declared.data_types.Payload.{Payload}
use Rattle.dmr_hearing.specs.declared.data_types.Payload.TheVariants.{Word, Sealed, LinkControl, Raw, Nothing}
use Rattle.dmr_hearing.specs.declared.heard.DataBurst.{DataBurst}
use Rattle.dmr_link.specs.Sealed.{IsLc, IsReadLc}
use Rattle.dmr_link.proofs.SealedForms.{near_itself, same_message as same_sealed}
use Rattle.dmr_link.specs.declared.fault.LcFault.{LcFault}
use Rattle.dmr_link.specs.declared.full_lc.FullLc.{FullLc}
use Rattle.dmr_link.specs.declared.sealing.LcUse.{LcUse}

-- ---- equal parts
same_some : (a b : List Bool) → Some a ≡ Some b → a ≡ b
same_some a b e = cc

same_ok : (a b : FullLc) → ◌≡◌ {A = Result FullLc LcFault} (Ok a) (Ok b) → a ≡ b
same_ok a b e = cc

-- Data bursts with equal parts are equal.
pub data_burst_by : (k k' : ℕ) (i i' : List Bool) (l l' : Option FullLc) → k ≡ k' → i ≡ i' → l ≡ l'
    → ◌≡◌ {A = Option DataBurst} (Some (record { kind = k; information = i; link_control = l }))
    (Some (record { kind = k'; information = i'; link_control = l' }))
data_burst_by k k' i i' l l' e f g = cc

one_message : (received a b : List Bool) → IsDecoded received (Some a) → IsDecoded received (Some b) → a ≡ b
one_message received a b p q = same_some a b (one_decoded received (Some a) (Some b) p q)

-- the same message has the same written form each time
pub one_encoded : (m n a b : List Bool) → m ≡ n → IsWritten m a → IsWritten n b → a ≡ b
one_encoded m n a b e p q = one_written n a b (subst (λ (x : List Bool). IsWritten x a) e p) q

-- ---- a message, encoded anew
pub record IsMade (kind : ℕ) (message : List Bool) (data_burst : DataBurst) : Type 0 where
  pub kind_is : data_burst.kind ≡ kind
  pub encoded : IsWritten message data_burst.information
  pub plain : data_burst.link_control ≡ None

made_is : (kind : ℕ) (message other information : List Bool) (lc : Option FullLc) (data_burst : DataBurst)
    → IsMade kind message data_burst
    → message ≡ other → IsWritten other information → lc ≡ None
    → Some data_burst ≡ Some (record { kind = kind; information = information; link_control = lc })
made_is kind message other information lc data_burst made e encoded plain =
    data_burst_by data_burst.kind kind data_burst.information information data_burst.link_control lc made.kind_is
    (one_encoded message other data_burst.information information e made.encoded encoded) (made.plain ∙ sym plain)

-- ---- words
pub word_read : (kind : ℕ) (received message : List Bool) (data_burst : DataBurst) → IsDecoded received (Some message)
    → IsMade kind message data_burst → IsReading Word kind received (Some data_burst)
word_read kind received message data_burst decoded made = record {
  within = (made.kind_is, (message, decoded, made.encoded, made.plain));
  only = λ information lc reads. let (other, decoded', encoded, plain) = reads in
      made_is kind message other information lc data_burst made (one_message received message other decoded decoded') encoded plain;
}

not_some : (a : List Bool) → None ≡ Some a → ⊥
not_some a e = cc

-- where the product code gives no bits, no data burst is read of a word
pub word_unread : (kind : ℕ) (received : List Bool) → IsDecoded received None → IsReading Word kind received None
word_unread kind received decoded = record {
  within = tt;
  only = λ information lc reads. let (other, decoded', encoded, plain) = reads in
      absurd (not_some other (one_decoded received None (Some other) decoded decoded'));
}

-- ---- sealed bits
pub sealed_read : (mask : Mask) (kind : ℕ) (received message : List Bool) (data_burst : DataBurst)
    → IsDecoded received (Some message)
    → IsSealed mask (octets_of 12 message)
    → IsMade kind message data_burst → IsReading (Sealed mask) kind received (Some data_burst)
sealed_read mask kind received message data_burst decoded sealed made = record {
  within = (made.kind_is, (message, decoded, sealed, made.encoded, made.plain));
  only = λ information lc reads. let (other, decoded', sealed', encoded, plain) = reads in
      made_is kind message other information lc data_burst made (one_message received message other decoded decoded') encoded plain;
}

-- the same, where the bits are to be sealed under a mask
pub sealed_unread : (mask : Mask) (kind : ℕ) (received : List Bool) → IsDecoded received None
    → IsReading (Sealed mask) kind received None
sealed_unread mask kind received decoded = record {
  within = tt;
  only = λ information lc reads. let (other, decoded', sealed, encoded, plain) = reads in
      absurd (not_some other (one_decoded received None (Some other) decoded decoded'));
}

-- where the product code gives bits that aren't sealed under the mask, no data burst is read
pub unsealed_unread : (mask : Mask) (kind : ℕ) (received message : List Bool) → IsDecoded received (Some message)
    → (IsSealed mask (octets_of 12 message) → ⊥)
    → IsReading (Sealed mask) kind received None
unsealed_unread mask kind received message decoded unsealed =
    let opened : (other : List Bool) → other ≡ message → IsSealed mask (octets_of 12 other) → ⊥ =
    λ other e sealed. unsealed (subst (λ (x : List Bool). IsSealed mask (octets_of 12 x)) e sealed) in record {
      within = tt;
      only = λ information lc reads. let (other, decoded', sealed, encoded, plain) = reads in
          absurd (opened other (one_message received other message decoded' decoded) sealed);
    }

-- ---- link control
pub link_control_read : (lc_use : LcUse) (kind : ℕ) (received message information : List Bool) (lc : FullLc)
    → IsReadLc lc_use received lc
    → ((other : FullLc) → IsReadLc lc_use received other → ◌≡◌ {A = Result FullLc LcFault} (Ok lc) (Ok other))
    → IsLc lc_use lc message → IsWritten message information
    → IsReading (LinkControl lc_use) kind received
    (Some (record { kind = kind; information = information; link_control = Some lc }))
link_control_read lc_use kind received message information lc read only is encoded =
    let made : (other : FullLc) (message' information' : List Bool) (control : Option FullLc) → lc ≡ other → IsLc lc_use other
    message' → IsWritten message' information' → control ≡ Some other
    → ◌≡◌ {A = Option DataBurst} (Some (record { kind = kind; information = information; link_control = Some lc }))
    (Some (record { kind = kind; information = information'; link_control = control })) =
    λ other message' information' control e is' encoded' control_is.
    let sealed : message ≡ message' = same_sealed lc_use other message message'
    (subst (λ (x : FullLc). IsLc lc_use x message) e is) is' in
    data_burst_by kind kind information information' (Some lc) control refl
    (one_encoded message message' information information' sealed encoded encoded') (ap Some e ∙ sym control_is) in record {
      within = (refl, (lc, message, read, is, encoded, refl));
      only = λ information' control reads. let (other, message', read', is', encoded', control_is) = reads in
          made other message' information' control (same_ok lc other (only other read')) is' encoded' control_is;
    }

not_ok : (fault : LcFault) (lc : FullLc) → ◌≡◌ {A = Result FullLc LcFault} (Err fault) (Ok lc) → ⊥
not_ok fault lc e = cc

-- where no link control is read for its use, no data burst is
pub link_control_unread : (lc_use : LcUse) (kind : ℕ) (received : List Bool) (fault : LcFault)
    → ((other : FullLc) → IsReadLc lc_use received other → ◌≡◌ {A = Result FullLc LcFault} (Err fault) (Ok other))
    → IsReading (LinkControl lc_use) kind received None
link_control_unread lc_use kind received fault only = record {
  within = tt;
  only = λ information control reads. let (other, message, read, is, encoded, control_is) = reads in
      absurd (not_ok fault other (only other read));
}

-- ---- what was sent
-- what decoding gives of a word that was sent, damaged within the limits
decoded_as : (received information message : List Bool) → IsWritten message information
    → IsDamagedPayload Word information received → IsDecoded received (Some message)
decoded_as received information message written (word, product, same, damaged) =
    let (result, decoded) = decoded_somehow received in
    subst (IsDecoded received) (undone received word result decoded product damaged ∙ ap Some (same ∙ written.holds)) decoded

-- Information that was sent is read, damaged within the limits.
pub sent_is_read : (payload : Payload) (information received : List Bool) (lc : Option FullLc) → Sends payload information lc
    → IsDamagedPayload payload information received → Reads payload received information lc
sent_is_read Word information received lc (message, written, none) damaged =
    (message, decoded_as received information message written damaged, written, none)
sent_is_read (Sealed mask) information received lc (message, sealed, written, none) damaged =
    (message, decoded_as received information message written damaged, sealed, written, none)
sent_is_read (LinkControl lc_use) information received lc (sent, message, is, written, some) damaged = (
  sent,
  message,
  record {
    message = message;
    sealed = message;
    decoded = decoded_as received information message written damaged;
    near = near_itself message;
    is = is;
  },
  is,
  written,
  some,
)
sent_is_read Raw information received lc (long, none) damaged = (sym damaged, none)
sent_is_read Nothing information received lc sends damaged = absurd sends
