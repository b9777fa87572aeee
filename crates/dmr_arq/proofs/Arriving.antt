-- What a receiver keeps fits its fields, whatever arrives, and so does what it gives.
use Rattle.std.proofs.Common.{ℕ, ◌-◌, ◌%◌, ◌^◌, ◌<◌, ltb, eqb, ◌&&◌, List, Option, Some, None, IfSome, Result, Ok, Err, length}
use Rattle.std.proofs.Common.{unwrap_or}
use Rattle.dmr_data.specs.Header.{IsFitHeader}
use Rattle.dmr_data.specs.Join.{joined}
use Rattle.dmr_data.specs.declared.block.Block.{Block}
use Rattle.dmr_data.specs.declared.fault.JoinFault.{JoinFault}
use Rattle.dmr_data.specs.declared.header.Confirmed.{Confirmed}
use Rattle.dmr_data.specs.declared.header.Header.{Header}
use Rattle.dmr_data.specs.declared.header.Header.TheVariants as header
use Rattle.dmr_arq.specs.Cells.{whole, flags_of}
use Rattle.dmr_arq.specs.Fit.{IsFitKind, IsFitReceiver, IsFitReceiverOut, IsFitAnswer}
use Rattle.dmr_arq.specs.ReceiverRules as receiver
use Rattle.dmr_arq.specs.Table.{holds}
use Rattle.dmr_arq.specs.declared.answer.Answer.{Answer}
use Rattle.dmr_arq.specs.declared.answer.Verdict.{Verdict}
use Rattle.dmr_arq.specs.declared.answer.Verdict.TheVariants.{Ack, Failed, Selective}
use Rattle.dmr_arq.specs.declared.receiver_state.Attempt.{Attempt}
use Rattle.dmr_arq.specs.declared.receiver_state.Kind.{Kind}
use Rattle.dmr_arq.specs.declared.receiver_state.Kind.TheVariants.{Single, InProgress, Repeat}
use Rattle.dmr_arq.specs.Progress.{Progress}
use Rattle.dmr_arq.specs.declared.receiver_state.ReceiverState.{ReceiverState}
use Rattle.dmr_arq.proofs.Sound.{by_cond}

-- the packet in progress
abbrev ProgressFits : Option Progress → Type 0
ProgressFits p = IfSome p (λ progress. IsFitHeader progress.header)

-- what is kept, and what is given
pub record PlacedFits (p : receiver.Placed) : Type 0 where
  pub state : IsFitReceiver p.state
  pub out : IsFitReceiverOut p.out

nothing_fits : IsFitReceiverOut receiver.gives_nothing
nothing_fits = record { delivered = tt; answer = tt }

-- 1. A header.

starts_fit : (h : Header) (blocks : ℕ) (kind : Kind) (s : ReceiverState) → IsFitHeader h → IsFitKind kind → IsFitReceiver s →
    IsFitReceiver (receiver.starts h blocks kind s)
starts_fit h blocks kind s fit kinds own = record { llid = own.llid; packet = fit; attempt = kinds }

closed_fit : (s : ReceiverState) → IsFitReceiver s → IsFitReceiver (receiver.closed s)
closed_fit s own = record { llid = own.llid; packet = tt; attempt = tt }

full_fit : (h : Confirmed) (s : ReceiverState) → IsFitHeader (header.Confirmed h) → IsFitReceiver s →
    IsFitReceiver (receiver.full_comes h s)
full_fit h s fit own =
    by_cond IsFitReceiver (receiver.is_for s.llid h.group h.destination h.blocks && eqb (h.fragment % 8) 0) _ _
    (λ yes. by_cond IsFitReceiver (holds (receiver.entry_of h) s.table) _ _
    (λ told. record { llid = own.llid; packet = tt; attempt = fit })
    (λ fresh. starts_fit (header.Confirmed h) h.blocks (InProgress h) s fit fit own))
    (λ other. closed_fit s own)

partial_fit : (h : Confirmed) (s : ReceiverState) → IsFitHeader (header.Confirmed h) → IsFitReceiver s →
    IsFitReceiver (receiver.partial_comes h s)
partial_fit h s fit own =
    by_cond IsFitReceiver (receiver.is_for s.llid h.group h.destination h.blocks) _ _
    (λ yes. by_cond IsFitReceiver (holds (receiver.entry_of h) s.table) _ _
    (λ told. record { llid = own.llid; packet = own.packet; attempt = fit })
    (λ fresh. by_cond IsFitReceiver (receiver.is_of h s.packet) _ _
    (λ same. record { llid = own.llid; packet = own.packet; attempt = fit })
    (λ other. record { llid = own.llid; packet = own.packet; attempt = tt })))
    (λ other. record { llid = own.llid; packet = own.packet; attempt = tt })

-- all that a receiver keeps fits its fields still after a header that does
pub header_fit : (h : Header) (s : ReceiverState) → IsFitHeader h → IsFitReceiver s → IsFitReceiver (receiver.header_comes h s)
header_fit (header.Unconfirmed h) s fit own =
    by_cond IsFitReceiver (receiver.is_for s.llid h.group h.destination h.blocks && eqb (h.fragment % 8) 0) _ _
    (λ yes. starts_fit (header.Unconfirmed h) h.blocks Single s fit tt own)
    (λ other. closed_fit s own)
header_fit (header.Confirmed h) s fit own =
    by_cond IsFitReceiver h.full _ _ (λ full. full_fit h s fit own) (λ part. partial_fit h s fit own)
header_fit (header.ShortData h) s fit own =
    by_cond IsFitReceiver (receiver.is_for s.llid h.group h.destination h.blocks) _ _
    (λ yes. starts_fit (header.ShortData h) h.blocks Single s fit tt own)
    (λ other. closed_fit s own)
header_fit (header.Status h) s fit own = own
header_fit (header.Response h) s fit own = own

-- 2. A place.

counted_fit : (serial : ℕ) (octets : List ℕ) (p : Progress) → IsFitHeader p.header →
    IsFitHeader (receiver.counted serial octets p).header
counted_fit serial octets p fit =
    by_cond (λ (x : Progress). IsFitHeader x.header)
    (receiver.is_paired octets && receiver.is_width p.width (length octets)) _ _ (λ yes. fit) (λ other. fit)

heard_fit : (kind : Kind) (left : ℕ) (block : Option Block) (p : Option Progress) → ProgressFits p →
    ProgressFits (receiver.heard kind left block p)
heard_fit kind left None p fit = fit
heard_fit Single left (Some block) None fit = tt
heard_fit Single left (Some block) (Some p) fit = counted_fit (length p.cells - left) block.octets p fit
heard_fit (InProgress h) left (Some block) None fit = tt
heard_fit (InProgress h) left (Some block) (Some p) fit = counted_fit (unwrap_or block.serial 0) block.octets p fit
heard_fit (Repeat h) left (Some block) p fit = fit

answer_fit : (h : Confirmed) (llid : ℕ) (verdict : Verdict) (flags : ℕ) → llid < 2 ^ 24 → IsFitHeader (header.Confirmed h) →
    IfSome (receiver.answer_to h llid verdict flags) IsFitAnswer
answer_fit h llid verdict flags own fit =
    by_cond (λ (o : Option Answer). IfSome o IsFitAnswer) h.wanted _ _
    (λ yes. record { from = own; to = fit.1.1.1.1.1.0; sap = fit.1.1.0; number = fit.1.1.1.1.1.1.1.0 })
    (λ other. tt)

single_joined_fit : (h : Header) (body : Result (List ℕ) JoinFault) → IsFitHeader h →
    IsFitReceiverOut (receiver.single_joined h body)
single_joined_fit h (Ok body) fit = record { delivered = fit; answer = tt }
single_joined_fit h (Err fault) fit = nothing_fits

single_fit : (h : Header) (all : Option (List ℕ)) → IsFitHeader h → IsFitReceiverOut (receiver.single_out h all)
single_fit h None fit = nothing_fits
single_fit h (Some octets) fit = single_joined_fit h (joined octets (receiver.pad_of h)) fit

joined_fit : (h : Confirmed) (first : Header) (body : Result (List ℕ) JoinFault) (s : ReceiverState) →
    IsFitHeader (header.Confirmed h) → IsFitHeader first → IsFitReceiver s → PlacedFits (receiver.confirmed_joined h first body s)
joined_fit h first (Ok body) s fit opened own =
    record {
      state = record { llid = own.llid; packet = own.packet; attempt = own.attempt };
      out = record { delivered = opened; answer = answer_fit h s.llid Ack 0 own.llid fit };
    }
joined_fit h first (Err fault) s fit opened own =
    record { state = own; out = record { delivered = tt; answer = answer_fit h s.llid Failed 0 own.llid fit } }

confirmed_fit : (h : Confirmed) (p : Progress) (all : Option (List ℕ)) (s : ReceiverState) → IsFitHeader (header.Confirmed h) →
    IsFitHeader p.header → IsFitReceiver s → PlacedFits (receiver.confirmed_ended h p all s)
confirmed_fit h p None s fit opened own =
    record {
      state = record { llid = own.llid; packet = opened; attempt = own.attempt };
      out = record { delivered = tt; answer = answer_fit h s.llid Selective (flags_of p.cells) own.llid fit };
    }
confirmed_fit h p (Some octets) s fit opened own = joined_fit h p.header (joined octets (receiver.pad_of p.header)) s fit opened own

ended_fit : (kind : Kind) (p : Option Progress) (s : ReceiverState) → IsFitKind kind → ProgressFits p → IsFitReceiver s →
    PlacedFits (receiver.ended kind p s)
ended_fit (Repeat h) p s kinds fit own =
    record {
      state = record { llid = own.llid; packet = fit; attempt = own.attempt };
      out = record { delivered = tt; answer = answer_fit h s.llid Ack 0 own.llid kinds };
    }
ended_fit Single None s kinds fit own = record { state = own; out = nothing_fits }
ended_fit Single (Some p) s kinds fit own = record { state = own; out = single_fit p.header (whole p.cells) fit }
ended_fit (InProgress h) None s kinds fit own = record { state = own; out = nothing_fits }
ended_fit (InProgress h) (Some p) s kinds fit own = confirmed_fit h p (whole p.cells) s kinds fit own

placed_in_fit : (a : Attempt) (p : Option Progress) (s : ReceiverState) → IsFitKind a.kind → ProgressFits p → IsFitReceiver s →
    PlacedFits (receiver.placed_in a p s)
placed_in_fit a p s kinds fit own =
    by_cond PlacedFits (ltb 1 a.left) _ _
    (λ more. record { state = record { llid = own.llid; packet = fit; attempt = kinds }; out = nothing_fits })
    (λ last. ended_fit a.kind p (receiver.closed s) kinds fit (closed_fit s own))

placed_at_fit : (o : Option Attempt) (block : Option Block) (s : ReceiverState) → IfSome o (λ a. IsFitKind a.kind) →
    IsFitReceiver s → PlacedFits (receiver.placed_at o block s)
placed_at_fit None block s kinds own = record { state = own; out = nothing_fits }
placed_at_fit (Some a) block s kinds own =
    placed_in_fit a (receiver.heard a.kind a.left block s.packet) s kinds (heard_fit a.kind a.left block s.packet own.packet) own

-- what a receiver keeps and gives after a place of a try fits its fields
pub placed_fit : (block : Option Block) (s : ReceiverState) → IsFitReceiver s → PlacedFits (receiver.placed block s)
placed_fit block s own = placed_at_fit s.attempt block s own.attempt own
