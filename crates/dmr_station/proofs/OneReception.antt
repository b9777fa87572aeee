-- What a slot means is heard in one way, and so a gateway receives one thing of it.
use Rattle.std.proofs.Common.{◌≡◌, ℕ, List, [], ◌∷◌, refl, sym, ◌∙◌, ap, subst}
use Rattle.dmr_gateway.proofs.OneOfEach.{read_alike}
use Rattle.dmr_gateway.specs.RecordMeaning.{received_now}
use Rattle.dmr_gateway.specs.declared.heard.Heard.{Heard}
use Rattle.dmr_gateway.specs.declared.received.Received.{Received}
use Rattle.dmr_voice.specs.Said.{Data, VoiceA, VoiceBToE, VoiceF, Said, Nothing, Repeat}
use Rattle.dmr_station.specs.DownlinkMeaning.{IsHeardOf, AreRecordsOf, IsSameMeaning}

heard_alike : (said : Said) (a b : Heard) → IsHeardOf said a → IsHeardOf said b → a ≡ b
heard_alike Nothing a b u v = u ∙ sym v
heard_alike (Repeat (Data kind information) role) a b u v = read_alike kind information a b u v
heard_alike (Repeat (VoiceA vocoder) role) a b u v = u ∙ sym v
heard_alike (Repeat (VoiceBToE place pi vocoder lc) role) a b u v = u ∙ sym v
heard_alike (Repeat (VoiceF pi embedded vocoder) role) a b u v = u ∙ sym v

pub one_reception : (saids : List Said) (llid slot : ℕ) (back : List Heard) (x y : List (List Received))
    → AreRecordsOf llid slot back saids x → AreRecordsOf llid slot back saids y → x ≡ y
one_reception [] llid slot back [] [] u v = refl
one_reception [] llid slot back [] (y ∷ ys) u v = absurd v
one_reception [] llid slot back (x ∷ xs) y u v = absurd u
one_reception (said ∷ more) llid slot back [] y u v = absurd u
one_reception (said ∷ more) llid slot back (x ∷ xs) [] u v = absurd v
one_reception (said ∷ more) llid slot back (x ∷ xs) (y ∷ ys) u v =
    let same : u.0 ≡ v.0 = heard_alike said u.0 v.0 u.1 v.1 in
    let head : x ≡ y = u.2 ∙ ap (λ h. received_now llid slot (h ∷ back)) same ∙ sym v.2 in
    let rest : AreRecordsOf llid slot (u.0 ∷ back) more ys =
    subst (λ h. AreRecordsOf llid slot (h ∷ back) more ys) (sym same) v.3 in
    let tail : xs ≡ ys = one_reception more llid slot (u.0 ∷ back) xs ys u.3 rest in
    cc

-- so what means the same is received alike
pub same_meaning : (a b : List Said) → a ≡ b → IsSameMeaning a b
same_meaning a b same = record {
  said = same;
  records = λ llid slot x y u v. one_reception a llid slot [] x y u
      (subst (λ saids. AreRecordsOf llid slot [] saids y) (sym same) v);
}
