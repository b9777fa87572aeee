use Rattle.std.proofs.Common.{◌≡◌, ℕ, ◌+◌, ◌<◌, List, [], ◌∷◌, ◌++◌, length, take, get_or, slice_get, Some, ap, sym, ◌∙◌, subst}
use Rattle.std.proofs.Common.{refl}
use Rattle.std.proofs.lemmas.List.{take_more, length-append}
use Rattle.std.proofs.lemmas.List.Elements.{All-get_or}
use Rattle.std.proofs.lemmas.Option.{slice_get_read}
use Rattle.dmr_data.specs.declared.block.Block.{Block}
use Rattle.dmr_making.proofs.Flags.{zip_more}
use Rattle.dmr_making.specs.Packets.{ArePicked}
use Rattle.dmr_making.proofs.packets.picked.Goals as goal

pub loop-serial-preserved : goal.loop-serial-preserved
loop-serial-preserved c =
    let i : ℕ = c.loop-serial.serial-index in
    let serials : List ℕ = c.args.serials.now in
    let blocks : List Block = c.args.blocks.now in
    let block : Block = c.index-blocks-from.result in
    let number : c.from.result ≡ get_or serials i 0 = c.from.ensures in
    let lt : i < length serials = c.loop-serial-test.true in
    let inside : c.from.result < length blocks =
    subst (λ (k : ℕ). k < length blocks) (sym number)
    (All-get_or (λ (k : ℕ). k < length blocks) serials i 0 lt c.requires.inside) in
    let there : slice_get blocks c.from.result ≡ Some block =
    slice_get_read blocks (length blocks) c.from.result block refl inside c.index-blocks-from.is in
    let new : c.push.new.self ≡ c.loop-serial.some ++ block ∷ [] =
    c.push.ensures.value ∙ ap (λ (b : Block). c.loop-serial.some ++ b ∷ []) c.copy.ensures.value in
    record {
      picked = subst (λ (some : List Block). ArePicked blocks (take (i + 1) serials) some) (sym new)
          (subst (λ (l : List ℕ). ArePicked blocks l (c.loop-serial.some ++ block ∷ [])) (sym (take_more serials i 0 lt))
          (zip_more (λ serial block. slice_get blocks serial ≡ Some block) (take i serials) c.loop-serial.some (get_or serials i 0)
          block c.loop-serial.invariant.picked (ap (λ (k : ℕ). slice_get blocks k) (sym number) ∙ there)));
      count = ap (λ (l : List Block). length l) new ∙ length-append c.loop-serial.some (block ∷ [])
          ∙ ap (λ (k : ℕ). k + 1) c.loop-serial.invariant.count;
    }
