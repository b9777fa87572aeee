-- The place of the newest frame, by what was read before it.
use Rattle.std.proofs.Common.{◌≡◌, ℕ, zero, suc, ◌<◌, List, [], ◌∷◌, Option, Some, None, slice_index_or, option_and_then, refl}
use Rattle.std.proofs.Common.{ap, ◌∙◌, arith}
use Rattle.dmr_listing.specs.declared.voice_place.VoicePlace.{VoicePlace}
use Rattle.dmr_listing.specs.declared.voice_place.VoicePlace.TheVariants.{A, B, C, D, E, F}
use Rattle.dmr_listing.specs.VoicePlace.{following, place_after, voice_place_of, IsVoiceSync, IsWithin, StandsIn}
use Rattle.dmr_reading.specs.declared.reading.Reading.{Reading}
use Rattle.dmr_reading.specs.declared.reading.Reading.TheVariants.{VoiceSync, Voice, Unreadable}

-- what neither begins nor ends a superframe stands a frame behind
after_within : (before : Option VoicePlace) (reading : Option Reading) → IsWithin reading → place_after before reading ≡
    option_and_then following before
after_within before None within = refl
after_within before (Some (Voice emb)) within = refl
after_within before (Some Unreadable) within = refl
after_within before (Some reading) within = absurd within

after_sync : (before : Option VoicePlace) (reading : Option Reading) → IsVoiceSync reading → place_after before reading ≡ Some A
after_sync before (Some (VoiceSync side)) begins = refl
after_sync before reading begins = absurd begins

-- one frame more that neither begins nor ends one
since_more : (count : ℕ) (reading : Option Reading) (earlier : List (Option Reading)) → IsWithin reading
    → ((frame : ℕ) → frame < count → IsWithin (slice_index_or earlier frame None))
    → (frame : ℕ) → frame < suc count → IsWithin (slice_index_or (reading ∷ earlier) frame None)
since_more count reading earlier within since zero below = within
since_more count reading earlier within since (suc frame) below = since frame (omega arith)

since_less : (count : ℕ) (reading : Option Reading) (earlier : List (Option Reading))
    → ((frame : ℕ) → frame < suc count → IsWithin (slice_index_or (reading ∷ earlier) frame None))
    → (frame : ℕ) → frame < count → IsWithin (slice_index_or earlier frame None)
since_less count reading earlier since frame below = since (suc frame) (omega arith)

stands_later : (before place : VoicePlace) (reading : Option Reading) (earlier : List (Option Reading)) → following before ≡ Some
    place
    → IsWithin reading → StandsIn before earlier → StandsIn place (reading ∷ earlier)
stands_later A B reading earlier e within stands = record {
  begins = stands.begins;
  since = since_more 0 reading earlier within
      stands.since;
}
stands_later B C reading earlier e within stands = record {
  begins = stands.begins;
  since = since_more 1 reading earlier within
      stands.since;
}
stands_later C D reading earlier e within stands = record {
  begins = stands.begins;
  since = since_more 2 reading earlier within
      stands.since;
}
stands_later D E reading earlier e within stands = record {
  begins = stands.begins;
  since = since_more 3 reading earlier within
      stands.since;
}
stands_later E F reading earlier e within stands = record {
  begins = stands.begins;
  since = since_more 4 reading earlier within
      stands.since;
}
stands_later before place reading earlier e within stands = absurd (cc)

told_later : (before : Option VoicePlace) (place : VoicePlace) (reading : Option Reading) (earlier : List (Option Reading)) →
    option_and_then following before ≡ Some place
    → IsWithin reading → ((q : VoicePlace) → before ≡ Some q → StandsIn q earlier) → StandsIn place (reading ∷ earlier)
told_later None place reading earlier e within stands = absurd (cc)
told_later (Some before) place reading earlier e within stands = stands_later before place reading earlier e within (stands before
    refl)

-- the newest frame stands in the place that its slot's readings give
pub place_told : (readings : List (Option Reading)) (place : VoicePlace) → voice_place_of readings ≡ Some place
    → StandsIn place readings
place_told [] place e = absurd (cc)
place_told (None ∷ earlier) place e = told_later (voice_place_of earlier) place None earlier e tt (place_told earlier)
place_told (Some (Voice emb) ∷ earlier) place e = told_later (voice_place_of earlier) place (Some (Voice emb)) earlier e tt
    (place_told
    earlier)
place_told (Some Unreadable ∷ earlier) place e = told_later (voice_place_of earlier) place (Some Unreadable) earlier e tt
    (place_told
    earlier)
place_told (Some (VoiceSync side) ∷ earlier) A e = record { begins = tt; since = λ frame below. absurd (omega arith) }
place_told (reading ∷ earlier) place e = absurd (cc)

behind_told : (before place : VoicePlace) (reading : Option Reading) (earlier : List (Option Reading)) → following before ≡ Some
    place
    → IsWithin reading → voice_place_of earlier ≡ Some before → voice_place_of (reading ∷ earlier) ≡ Some place
behind_told before place reading earlier e within told =
    after_within (voice_place_of earlier) reading within ∙ ap (λ (b : Option VoicePlace). option_and_then following b) told ∙ e

-- where it stands in a place, the readings give that place
pub place_stands : (readings : List (Option Reading)) (place : VoicePlace) → StandsIn place readings
    → voice_place_of readings ≡ Some
    place
place_stands [] A stands = absurd stands.begins
place_stands [] B stands = absurd stands.begins
place_stands [] C stands = absurd stands.begins
place_stands [] D stands = absurd stands.begins
place_stands [] E stands = absurd stands.begins
place_stands [] F stands = absurd stands.begins
place_stands (r ∷ rs) A stands = after_sync (voice_place_of rs) r stands.begins
place_stands (r ∷ rs) B stands =
    behind_told A B r rs refl (stands.since 0 (omega arith)) (place_stands rs A (record {
      begins = stands.begins;
      since =
          since_less 0 r rs stands.since;
    }))
place_stands (r ∷ rs) C stands =
    behind_told B C r rs refl (stands.since 0 (omega arith)) (place_stands rs B (record {
      begins = stands.begins;
      since =
          since_less 1 r rs stands.since;
    }))
place_stands (r ∷ rs) D stands =
    behind_told C D r rs refl (stands.since 0 (omega arith)) (place_stands rs C (record {
      begins = stands.begins;
      since =
          since_less 2 r rs stands.since;
    }))
place_stands (r ∷ rs) E stands =
    behind_told D E r rs refl (stands.since 0 (omega arith)) (place_stands rs D (record {
      begins = stands.begins;
      since =
          since_less 3 r rs stands.since;
    }))
place_stands (r ∷ rs) F stands =
    behind_told E F r rs refl (stands.since 0 (omega arith)) (place_stands rs E (record {
      begins = stands.begins;
      since =
          since_less 4 r rs stands.since;
    }))
