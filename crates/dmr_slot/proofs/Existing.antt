-- Whatever slots are pushed into a line, something comes out of it; the channel sends something; and there is a message for the
-- calls in both slots.
use Rattle.std.proofs.Common.{◌≡◌, ℕ, zero, suc, ◌+◌, ◌*◌, ◌^◌, ◌<◌, Bool, List, [], ◌∷◌, ◌++◌, length, All, drop, Option, Some}
use Rattle.std.proofs.Common.{None, IfSome, refl, sym, subst, lit<}
use Rattle.std.specs.List.{AllByRecursion}
use Rattle.std.specs.Option.{option_map_or}
use Rattle.std.proofs.lemmas.List.Elements.{All-push, All-drop, All-replicate}
use Rattle.dmr_bits.specs.Bits.{bits_of, number_of}
use Rattle.dmr_bits.proofs.Lists.{number_of-lt, bits_of_spelled}
use Rattle.dmr_bptc.proofs.Existing.{written_somehow}
use Rattle.dmr_burst.specs.declared.burst.Burst.{Burst}
use Rattle.dmr_burst.specs.declared.burst.Burst.TheVariants as burst
use Rattle.dmr_checks.specs.Generators.{Completes, crc8_generator}
use Rattle.dmr_checks.proofs.Existing.{crc8_somehow}
pub use Rattle.dmr_hearing.specs.Recorded.{IsSilenceOr33Octets}
use Rattle.dmr_hearing.specs.Slots.{silence}
use Rattle.dmr_hearing.proofs.Existing.{hears_somehow}
use Rattle.dmr_hearing.proofs.Whole.{IsWholeLc, IsWholeHeard, heard_whole}
use Rattle.dmr_link.specs.declared.full_lc.FullLc.{FullLc}
use Rattle.dmr_link.specs.declared.sealing.LcUse.TheVariants.{Terminator}
use Rattle.dmr_link.proofs.Existing.{lc_somehow}
use Rattle.dmr_voice.specs.declared.said.Role.{Role}
use Rattle.dmr_voice.specs.declared.said.Role.TheVariants.{Call, Other}
use Rattle.dmr_voice.specs.Said.{Said, Nothing, Repeat}
use Rattle.dmr_voice.proofs.CarriedSomehow.{carried_somehow}
use Rattle.dmr_voice.proofs.Existing.{IsWholeContent, IsWholeRole, IsWholeSaid, IsWholeTrack, IsWholeBurst, step_whole}
use Rattle.dmr_voice.proofs.Existing.{carried_whole, burst_somehow}
use Rattle.dmr_slot.specs.Activity.{IsHash, IsActivity, IsMessage}
use Rattle.dmr_slot.specs.Bursts.{IsProductBurst, IsIdle, IsHeldBy, IsSlotOut, IsChannelBurst, AreSent, idle_message, lc_of}
use Rattle.dmr_slot.specs.ChannelMeaning.{ChannelOut, Sent, Idle, Silent}
use Rattle.dmr_slot.specs.LineMeaning.{LineOut, Repeated, Hang, Free}
use Rattle.dmr_slot.specs.LineRules.{LineMemory, silent_line, known_after, still_left, role_of, out_of, moved, decided, push_out}
use Rattle.dmr_slot.specs.LineRules.{after_push, IsPush, ArePushed}
use Rattle.dmr_slot.specs.declared.line.SlotOut.{SlotOut}
use Rattle.dmr_slot.proofs.Messages.{activity_of, target_of, opcode_of}

-- ---- bursts that the repeater makes
-- A burst of a kind with the written form of 96 bits,
product_somehow : (colour kind : ℕ) (message : List Bool) → colour < 16 → kind < 16 → length message ≡ 96
    → (b : Burst) × IsProductBurst colour kind message b × IsWholeBurst b
product_somehow colour kind message low small long =
    let (information, written) = written_somehow message long in (
      burst.Data colour kind information,
      (information, written, refl),
      record { fit = (low, small); long = written.long },
    )

-- and so idle, and what holds a slot after a call.
pub idle_somehow : (colour : ℕ) → colour < 16 → (b : Burst) × IsIdle colour b × IsWholeBurst b
idle_somehow colour low = product_somehow colour 9 idle_message low (lit< tt) refl

held_somehow : (colour : ℕ) (lc : Option FullLc) → colour < 16 → IsWholeLc lc
    → (b : Burst) × IsHeldBy colour lc b × IsWholeBurst b
held_somehow colour None low whole = idle_somehow colour low
held_somehow colour (Some lc) low whole =
    let (message, is) = lc_somehow Terminator lc whole in
    let (b, product, burst_whole) = product_somehow colour 2 message low (lit< tt) is.sealed.long in
    (b, (message, is, product), burst_whole)

-- ---- what a line gives
-- What a line gives is whole: its bursts can be sent, and the link control fits.
pub record IsWholeOut (out : SlotOut) : Type 0 where
  pub repeated : IfSome out.repeated IsWholeBurst
  pub hang : IfSome out.hang IsWholeBurst
  pub lc : IsWholeLc out.lc

abbrev IsWholeLine : LineOut → Type 0
IsWholeLine (Repeated content role) = IsWholeContent content × IsWholeRole role
IsWholeLine (Hang lc) = IsWholeLc lc
IsWholeLine Free = Unit {0}

lc_whole : (role : Role) → IsWholeRole role → IsWholeLc (lc_of role)
lc_whole (Call lc) p = p
lc_whole Other p = tt

slot_out_somehow : (colour : ℕ) (line : LineOut) → colour < 16 → IsWholeLine line
    → (out : SlotOut) × IsSlotOut colour line out × IsWholeOut out
slot_out_somehow colour (Repeated content role) low whole =
    let (b, is, fine) = burst_somehow colour content low whole.0 in (
      record { repeated = Some b; hang = None; lc = lc_of role },
      (b, is, refl),
      record { repeated = fine; hang = tt; lc = lc_whole role whole.1 },
    )
slot_out_somehow colour (Hang lc) low whole =
    let (b, is, fine) = held_somehow colour lc low whole in (
      record { repeated = None; hang = Some b; lc = lc },
      (b, is, refl),
      record { repeated = tt; hang = fine; lc = whole },
    )
slot_out_somehow colour Free low whole =
    (record { repeated = None; hang = None; lc = None }, refl, record { repeated = tt; hang = tt; lc = tt })

hang_whole : (left : ℕ) (lc : Option FullLc) → IsWholeLc lc → IsWholeLine (option_map_or Hang (still_left left lc) Free)
hang_whole zero lc p = tt
hang_whole (suc left) lc p = p

out_whole : (left : ℕ) (lc : Option FullLc) (said : Said) → IsWholeLc lc → IsWholeSaid said → IsWholeLine (out_of left lc said)
out_whole left lc Nothing p q = hang_whole left lc p
out_whole left lc (Repeat content role) p q = q

-- ---- a line
-- What a line remembers is whole.
pub record IsWholeMemory (m : LineMemory) : Type 0 where
  pub colour : m.colour < 16
  pub window : All IsWholeHeard m.window
  pub state : IsWholeTrack m.state
  pub lc : IsWholeLc m.lc

silence_whole : IsWholeHeard silence
silence_whole = heard_whole 0 None silence refl

-- what a new line remembers is whole
pub silent_whole : (colour call_hang : ℕ) → colour < 16 → IsWholeMemory (silent_line colour call_hang)
silent_whole colour call_hang low = record {
  colour = low;
  window = All-replicate IsWholeHeard 6 silence silence_whole;
  state = tt;
  lc = tt;
}

known_whole : (lc : Option FullLc) (role : Role) → IsWholeLc lc → IsWholeRole role → IsWholeLc (known_after lc role)
known_whole lc (Call known) p q = q
known_whole lc Other p q = p

role_whole : (said : Said) → IsWholeSaid said → IsWholeRole (role_of said)
role_whole Nothing p = tt
role_whole (Repeat content role) p = p.1

-- A push of a slot, whatever it holds: what comes out, and what is remembered then.
pub record IsWholePush (before : LineMemory) (slot : Option (List ℕ)) (out : SlotOut) (after : LineMemory) : Type 0 where
  pub is : IsPush before slot out after
  pub out_whole : IsWholeOut out
  pub after_whole : IsWholeMemory after

-- whatever slot is pushed into a whole line, something whole comes out, and the line stays whole
pub push_somehow : (m : LineMemory) (slot : Option (List ℕ)) → IsWholeMemory m → IsSilenceOr33Octets slot
    → (out : SlotOut) × (after : LineMemory) × IsWholePush m slot out after
push_somehow m slot whole is =
    let (heard, hears) = hears_somehow m.colour slot is in
    let (carried, carries) = carried_somehow m.colour (drop 1 (moved m.window heard)) in
    let window : All IsWholeHeard (moved m.window heard) =
    All-push IsWholeHeard (drop 1 m.window) heard (All-drop IsWholeHeard 1 m.window whole.window)
    (heard_whole m.colour slot heard hears) in
    let step = step_whole m.colour m.state (moved m.window heard) carried whole.state window
    (carried_whole m.colour (drop 1 (moved m.window heard)) carried carries) in
    let said : Said = (decided m heard carried).0 in
    let (out, gives, fine) = slot_out_somehow m.colour (push_out m heard carried) whole.colour
    (out_whole m.left m.lc said whole.lc step.0) in (
      out,
      after_push m heard carried,
      record {
        is = record { heard = heard; carried = carried; hears = hears; carries = carries; gives = gives; remembers = refl };
        out_whole = fine;
        after_whole = record {
          colour = whole.colour;
          window = window;
          state = step.1;
          lc = known_whole m.lc (role_of said) whole.lc (role_whole said step.0);
        };
      },
    )

-- Pushes, one after another.
pub pushed_somehow : (m : LineMemory) (slots : List (Option (List ℕ))) → IsWholeMemory m → AllByRecursion IsSilenceOr33Octets slots
    → (outs : List SlotOut) × (after : LineMemory) × ArePushed m slots outs after
pushed_somehow m [] whole are = ([], m, refl)
pushed_somehow m (slot ∷ slots) whole are =
    let (out, next, push) = push_somehow m slot whole are.0 in
    let (outs, after, pushed) = pushed_somehow next slots push.after_whole are.1 in
    (out ∷ outs, after, (next, push.is, pushed))

-- whatever slots are pushed into a new line, something comes out of it for each
pub new_line : (colour call_hang : ℕ) (slots : List (Option (List ℕ))) → colour < 16 → AllByRecursion IsSilenceOr33Octets slots
    → (outs : List SlotOut) × (after : LineMemory) × ArePushed (silent_line colour call_hang) slots outs after
new_line colour call_hang slots low are =
    pushed_somehow (silent_line colour call_hang) slots (silent_whole colour call_hang low) are

-- ---- the channel
-- What the channel sends can be sent.
abbrev pub IsWholeSent : ChannelOut → Type 0
IsWholeSent (Sent b) = IsWholeBurst b
IsWholeSent Idle = Unit {0}
IsWholeSent Silent = Unit {0}

sent_somehow : (colour : ℕ) (slot : ChannelOut) → colour < 16 → IsWholeSent slot
    → (out : Option Burst) × IsChannelBurst colour slot out × IfSome out IsWholeBurst
sent_somehow colour (Sent b) low whole = (Some b, refl, whole)
sent_somehow colour Idle low whole = let (b, is, fine) = idle_somehow colour low in (Some b, (b, is, refl), fine)
sent_somehow colour Silent low whole = (None, refl, tt)

-- for all that the channel sends, if it is whole, there are bursts, which are whole
pub sent_in_slots : (colour : ℕ) (slots : List ChannelOut) → colour < 16 → AllByRecursion IsWholeSent slots
    → (outs : List (Option Burst)) × AreSent colour slots outs × AllByRecursion (λ out. IfSome out IsWholeBurst) outs
sent_in_slots colour [] low whole = ([], tt, tt)
sent_in_slots colour (slot ∷ slots) low whole =
    let (out, is, fine) = sent_somehow colour slot low whole.0 in
    let (outs, are, all) = sent_in_slots colour slots low whole.1 in
    (out ∷ outs, (is, are), (fine, all))

-- ---- the message
hash_somehow : (activity target : ℕ) → (hash : ℕ) × IsHash activity target hash
hash_somehow zero target = (0, refl)
hash_somehow (suc activity) target =
    let (check, eight, completes) = crc8_somehow (bits_of 4 0 ++ bits_of 24 target) in
    let spelled : bits_of 8 (number_of check) ≡ check = bits_of_spelled 8 check eight in (
      number_of check,
      (
        subst (λ (n : ℕ). number_of check < 2 ^ n) eight (number_of-lt check),
        subst (Completes crc8_generator (bits_of 4 0 ++ bits_of 24 target)) (sym spelled) completes,
      ),
    )

-- What is said of a slot.
record IsSaidOf (lc : Option FullLc) (activity hash : ℕ) : Type 0 where
  is : IsActivity lc activity hash

activity_somehow : (lc : Option FullLc) → (activity : ℕ) × (hash : ℕ) × IsSaidOf lc activity hash
activity_somehow None = (0, 0, record { is = (refl, refl) })
activity_somehow (Some lc) =
    let (hash, is) = hash_somehow (activity_of lc.flco) (target_of lc) in
    (activity_of lc.flco, hash, record { is = (refl, is) })

-- there is a message for the calls in both slots
pub message_somehow : (first second : Option FullLc) → (slco : ℕ) × (body : ℕ) × IsMessage first second slco body
message_somehow first second =
    let (a, h, one) = activity_somehow first in
    let (b, k, two) = activity_somehow second in (
      opcode_of a b,
      a * 2 ^ 20 + b * 2 ^ 16 + h * 2 ^ 8 + k,
      record {
        first_activity = a;
        first_hash = h;
        first_slot = one.is;
        second_activity = b;
        second_hash = k;
        second_slot = two.is;
        opcode = refl;
        fields = refl;
      },
    )
