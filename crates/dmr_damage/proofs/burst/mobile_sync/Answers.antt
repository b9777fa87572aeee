use Rattle.dmr_bits.specs.Bits.{bits_of_octets}
use Rattle.dmr_hearing.proofs.Syncs.{base_sync, voice_found, no_sync}
use Rattle.dmr_damage.proofs.burst.mobile_sync.Goals as goal

pub returns-in_err-sync-clause-only : goal.returns-in_err-sync-clause-only
returns-in_err-sync-clause-only c = λ voice has. absurd (no_sync (bits_of_octets c.args.burst.now) voice
    c.in_err-sync.ensures.only has)

pub returns-in-Bs-clause-only : goal.returns-in-Bs-clause-only
returns-in-Bs-clause-only c = λ voice has. absurd (base_sync c.in_ok-sync.sync (bits_of_octets c.args.burst.now) voice
    c.in_ok-sync.ensures.only c.in-Bs.is has)

pub returns-in-Ms-clause-only : goal.returns-in-Ms-clause-only
returns-in-Ms-clause-only c = λ voice has. voice_found c.in_ok-sync.sync (bits_of_octets c.args.burst.now) voice
    c.in_ok-sync.ensures.only has
