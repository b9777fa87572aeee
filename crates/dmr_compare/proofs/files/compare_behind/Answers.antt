use Rattle.std.proofs.Common.{◌≡◌, ℕ, Option, List, inl, inr, sym, subst}
use Rattle.dmr_compare.proofs.Printed.{if_ok}
use Rattle.dmr_compare.specs.Files.{AreContentsCompared, BothContents, Records, Slots}
use Rattle.dmr_compare.specs.declared.counts.PlaceCounts.{PlaceCounts}
use Rattle.dmr_compare.specs.declared.settings.CompareSettings.{CompareSettings}
use Rattle.dmr_record.specs.declared.head.FileFormat.{FileFormat}
use Rattle.dmr_compare.proofs.files.compare_behind.Goals as goal

-- what was compared of files of a format was of files of this format, where it is that one
of_format : (settings : CompareSettings) (format format' : FileFormat) (contents : BothContents) (counts : PlaceCounts)
    (a b c d h i : Option (List ℕ)) → format ≡ format' → AreContentsCompared settings format' contents counts a b c d h i
    → AreContentsCompared settings format contents counts a b c d h i
of_format settings format format' contents counts a b c d h i e compared =
    subst (λ (f : FileFormat). AreContentsCompared settings f contents counts a b c d h i) (sym e) compared

pub returns-in-Uplink-clause-whole : goal.returns-in-Uplink-clause-whole
returns-in-Uplink-clause-whole g c =
    if_ok c.compare_recordings.result c.compare_recordings.ensures.whole
    (λ counts h. (
      Slots h.0 h.1,
      of_format c.args.settings.now c.args.format _ (Slots h.0 h.1) counts _ _ _ _ _ _ c.in-Uplink.is h.2,
    ))

pub returns-in-Downlink-clause-whole : goal.returns-in-Downlink-clause-whole
returns-in-Downlink-clause-whole g c =
    if_ok c.compare_recordings-in-Downlink.result c.compare_recordings-in-Downlink.ensures.whole
    (λ counts h. (
      Slots h.0 h.1,
      of_format c.args.settings.now c.args.format _ (Slots h.0 h.1) counts _ _ _ _ _ _ c.in-Downlink.is h.2,
    ))

pub returns-in-Outgoing-clause-whole : goal.returns-in-Outgoing-clause-whole
returns-in-Outgoing-clause-whole g c =
    let unshifted = c.requires.unshifted (inl c.in-Outgoing.is) in
    if_ok c.compare_lists_behind.result c.compare_lists_behind.ensures.whole
    (λ counts h. (
      Records h.0 h.1,
      of_format c.args.settings.now c.args.format _ (Records h.0 h.1) counts _ _ _ _ _ _ c.in-Outgoing.is (unshifted, h.2),
    ))

pub returns-in-Received-clause-whole : goal.returns-in-Received-clause-whole
returns-in-Received-clause-whole g c =
    let unshifted = c.requires.unshifted (inr c.in-Received.is) in
    if_ok c.compare_lists_behind-in-Received.result c.compare_lists_behind-in-Received.ensures.whole
    (λ counts h. (
      Records h.0 h.1,
      of_format c.args.settings.now c.args.format _ (Records h.0 h.1) counts _ _ _ _ _ _ c.in-Received.is (unshifted, h.2),
    ))
