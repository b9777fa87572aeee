use Rattle.std.proofs.Common.{rules, ◌≡◌, ◌++◌, ◌∙◌, replicate, take, ap, sym}
use Rattle.std.proofs.lemmas.List.{take-replicate}
use Rattle.dmr_data.proofs.Packets.{sealed_list}
use Rattle.dmr_data.proofs.splitting.seal.Goals as goal

pub returns : goal.returns
returns c =
    let body : c.extend_from_slice.new.self ≡ c.args.body.now =
    c.extend_from_slice.ensures.value ∙ ap (λ l. l ++ c.args.body.now) c.clear.ensures.value in
    let zeros : c.extend_from_slice-2.new.self ≡ c.args.body.now ++ replicate c.args.pad 0 =
    c.extend_from_slice-2.ensures.value ∙ ap (λ l. l ++ take c.args.pad (replicate 24 0)) body
    ∙ ap (λ l. c.args.body.now ++ l) (take-replicate c.args.pad 24 0 c.requires.narrow) in
    record {
      sealed = sealed_list c.args.body.now c.args.pad c.crc32-check.result c.as_slice.result.now c.extend_from_slice-3.new.self
          c.to_le_bytes.result
          (c.as_slice.ensures.value ∙ zeros) (search rules) c.crc32-check.ensures.seals c.to_le_bytes.ensures
          (c.extend_from_slice-3.ensures.value ∙ ap (λ l. l ++ c.to_le_bytes.result) (sym c.as_slice.ensures.value));
    }
