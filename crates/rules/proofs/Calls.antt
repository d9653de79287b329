-- Each call is refused, and not because the ledger is out of order, or does what is proved of it. Assumes nothing.
use Rattle.std.proofs.Common.{◌≡◌, ℕ, ◌<◌, Bool, false, not, ◌&&◌, eqb, leb, [], length, None, sym, refl, subst}
use Rattle.std.proofs.lemmas.Bool.{leb-false, not-false, eqb-false}
use Rattle.kind.specs.Algebra.{Answers}
use Rattle.tables.specs.declared.rows.Grant.{Grant}
use Rattle.tables.specs.declared.refusal.Refusal.TheVariants.{NoSuchBank, NoSuchGrant, EmptyAmount, BankFree, RowLive, ChainFull, OverLimit, NotThisGrant, RootBank, SerialsSpent, OutOfOrder}
use Rattle.tables.specs.Tables.{State}
use Rattle.tables.specs.Rows.{nearest, over, short_of, above, lost_bank, lost_grant}
use Rattle.rules.specs.Rules.{Call, open_bank, buy, give_back, reclaim, hand_up, stock, ask, misfit, live_bank, live_grant, bank_of}
use Rattle.rules.specs.Rules.{open_refusal, opens, buy_refusal, buys, back_refusal, backs, reclaim_refusal, reclaims, closing_refusal, hands_up}
use Rattle.rules.specs.Record.{Shown}
use Rattle.rules.proofs.Views.{bank-row, grant_row, chain_of_lem, lost_in}
use Rattle.rules.proofs.Laws.{Laws}
use Rattle.rules.proofs.Roads.{Open}
use Rattle.rules.proofs.Sound.{Sound, row_of, live_open, not-lost}
use Rattle.rules.proofs.RefusalFacts.{Orders, clear, clear_if, clear_at, order_none, order_then, order_if, order_not, order_at, order_nowhere, misfit_none, no_lost_bank, no_lost_grant}
use Rattle.rules.proofs.Steps.{Step, either_way}
use Rattle.rules.proofs.Opens.{opened_step}
use Rattle.rules.proofs.Buys.{bought_step}
use Rattle.rules.proofs.Backs as Backs
use Rattle.rules.proofs.Reclaims as Reclaims
use Rattle.rules.proofs.HandUps.{handed_step}
use Rattle.rules.proofs.Stocks.{stock_step}

module _ {A : Type 0} {makes : A → A → A → Type 0} {q : Answers A} (laws : Laws makes q) {e : A} {v : Shown A} {s : State A} (sound : Sound makes q e v s) where
  -- a bank whose row is not refused as free
  not_free : (b : ℕ) → not (live_bank q s b) ≡ false → Open v.bank b
  not_free b h = live_open sound b (not-false (live_bank q s b) h)

  module _ (p c : ℕ) where
    open_order : Orders (open_refusal q s p c)
    open_order =
        order_none (misfit q s) _ (misfit_none sound) (
        order_if (leb (length s.banks) p) (NoSuchBank p) _ refl (λ _.
        order_if (leb (length s.banks) c) (NoSuchBank c) _ refl (λ _.
        order_if (not (live_bank q s p)) (BankFree p) _ refl (λ live.
        order_not (lost_in q s p) (OutOfOrder p) _ (not-lost sound p (not_free p live)) (
        order_if (leb 16 (length (chain_of_lem q s p))) (ChainFull p) _ refl (λ _.
        order_if (live_bank q s c) (RowLive c) [] refl (λ _. tt)))))))

    open_step : (limit : A) → Step makes q e v s (open_bank p c limit) (opens q s p c limit)
    open_step limit = either_way sound (open_bank p c limit) (open_refusal q s p c) _ open_order (λ none.
        let k1 = clear (misfit q s) _ none in
        let k2 = clear_if (leb (length s.banks) p) (NoSuchBank p) _ k1.1 in
        let k3 = clear_if (leb (length s.banks) c) (NoSuchBank c) _ k2.1 in
        let k4 = clear_if (not (live_bank q s p)) (BankFree p) _ k3.1 in
        let k5 = clear_if (lost_in q s p) (OutOfOrder p) _ k4.1 in
        let k6 = clear_if (leb 16 (length (chain_of_lem q s p))) (ChainFull p) _ k5.1 in
        let k7 = clear_if (live_bank q s c) (RowLive c) [] k6.1 in
        opened_step laws sound p c limit (leb-false (length s.banks) c k3.0) (not_free p k4.0) (leb-false 16 (length (chain_of_lem q s p)) k6.0) k7.0)

  module _ (b r : ℕ) (a : A) where
    buy_order : Orders (buy_refusal q s b r a)
    buy_order =
        order_none (misfit q s) _ (misfit_none sound) (
        order_if (leb (length s.banks) b) (NoSuchBank b) _ refl (λ _.
        order_if (leb (length s.grants) r) (NoSuchGrant r) _ refl (λ _.
        order_if (q.is_empty a) (EmptyAmount b) _ refl (λ _.
        order_if (not (live_bank q s b)) (BankFree b) _ refl (λ live.
        order_if (live_grant q s r) (RowLive r) _ refl (λ _.
        order_if (leb 4000000000 s.last) SerialsSpent _ refl (λ _.
        order_not (lost_in q s b) (OutOfOrder b) _ (not-lost sound b (not_free b live)) (
        order_at (nearest (over q s.banks a) (chain_of_lem q s b)) OverLimit [] (λ n. refl) tt))))))))

    buy_step : Step makes q e v s (buy b r a) (buys q s b r a)
    buy_step = either_way sound (buy b r a) (buy_refusal q s b r a) _ buy_order (λ none.
        let k1 = clear (misfit q s) _ none in
        let k2 = clear_if (leb (length s.banks) b) (NoSuchBank b) _ k1.1 in
        let k3 = clear_if (leb (length s.grants) r) (NoSuchGrant r) _ k2.1 in
        let k4 = clear_if (q.is_empty a) (EmptyAmount b) _ k3.1 in
        let k5 = clear_if (not (live_bank q s b)) (BankFree b) _ k4.1 in
        let k6 = clear_if (live_grant q s r) (RowLive r) _ k5.1 in
        let k7 = clear_if (leb 4000000000 s.last) SerialsSpent _ k6.1 in
        let k8 = clear_if (lost_in q s b) (OutOfOrder b) _ k7.1 in
        let k9 = clear_at (nearest (over q s.banks a) (chain_of_lem q s b)) OverLimit [] k8.1 in
        bought_step laws sound b r a (leb-false (length s.grants) r k3.0) (not_free b k5.0) k6.0 k9.0)

  module _ (r n : ℕ) where
    abbrev w : Grant A
    w = grant_row q s r

    abbrev this : Bool
    this = w.live && eqb w.serial n

    back_order : Orders (back_refusal q s r n)
    back_order =
        order_none (misfit q s) _ (misfit_none sound) (
        order_if (leb (length s.grants) r) (NoSuchGrant r) _ refl (λ _.
        order_if (not this) (NotThisGrant r) _ refl (λ t.
        let f = Backs.found laws sound r n (not-false this t) in
        order_not (lost_in q s w.bank) (OutOfOrder w.bank) _ (subst (λ (x : Grant A). lost_in q s x.bank ≡ false) (sym f.4) (not-lost sound f.0.bank (sound.housed f.0 f.1))) (
        order_nowhere (nearest (short_of q s.banks w.amount) (chain_of_lem q s w.bank)) OutOfOrder []
        (subst (λ (x : Grant A). nearest (short_of q s.banks x.amount) (chain_of_lem q s x.bank) ≡ None) (sym f.4) (Backs.none_short laws sound f.0 f.1)) tt))))

    back_step : Step makes q e v s (give_back r n) (backs q s r n)
    back_step = either_way sound (give_back r n) (back_refusal q s r n) _ back_order (λ none.
        let k1 = clear (misfit q s) _ none in
        let k2 = clear_if (leb (length s.grants) r) (NoSuchGrant r) _ k1.1 in
        let k3 = clear_if (not this) (NotThisGrant r) _ k2.1 in
        let f = Backs.found laws sound r n (not-false this k3.0) in
        let room : f.0.row < length s.grants = subst (λ m. m < length s.grants) (sym f.2) (leb-false (length s.grants) r k2.0) in
        subst (λ (x : Grant A). Step makes q e v s (give_back r n) (Backs.outcome laws sound r x)) (sym f.4) (
        subst (λ m. Step makes q e v s (give_back r m) (Backs.outcome laws sound r (row_of f.0))) f.3 (
        subst (λ m. Step makes q e v s (give_back m f.0.serial) (Backs.outcome laws sound m (row_of f.0))) f.2 (
        Backs.backed_step laws sound f.0 f.1 room))))

  module _ (d : ℕ) where
    closing_order : Orders (closing_refusal q s d)
    closing_order =
        order_none (misfit q s) _ (misfit_none sound) (
        order_if (leb (length s.banks) d) (NoSuchBank d) _ refl (λ _.
        order_if (eqb d 0) RootBank _ refl (λ _.
        order_if (not (live_bank q s d)) (BankFree d) _ refl (λ _.
        order_nowhere (lost_bank q s.banks) OutOfOrder _ (no_lost_bank sound) (
        order_nowhere (lost_grant q s.banks s.grants) (bank_of q s) [] (no_lost_grant sound) tt)))))

    -- a bank that may close is open, and is not bank 0
    closing : closing_refusal q s d ≡ None → (d ≡ 0 → ⊥) × Open v.bank d
    closing none =
        let k1 = clear (misfit q s) _ none in
        let k2 = clear_if (leb (length s.banks) d) (NoSuchBank d) _ k1.1 in
        let k3 = clear_if (eqb d 0) RootBank _ k2.1 in
        let k4 = clear_if (not (live_bank q s d)) (BankFree d) _ k3.1 in
        (eqb-false d 0 k3.0, not_free d k4.0)

    reclaim_order : Orders (reclaim_refusal q s d)
    reclaim_order =
        order_then (closing_refusal q s d) _ closing_order (λ none. let k = closing none in
        order_nowhere (nearest (short_of q s.banks (bank-row q s d).used) (above (chain_of_lem q s d))) OutOfOrder [] (Reclaims.none_short laws sound d k.0 k.1) tt)

    reclaim_step : Step makes q e v s (reclaim d) (reclaims q s d)
    reclaim_step = either_way sound (reclaim d) (reclaim_refusal q s d) _ reclaim_order (λ none.
        let k = closing (clear (closing_refusal q s d) _ none).0 in
        Reclaims.reclaimed_step laws sound d k.0 k.1 _)

    hand_up_step : Step makes q e v s (hand_up d) (hands_up q s d)
    hand_up_step = either_way sound (hand_up d) (closing_refusal q s d) _ closing_order (λ none.
        let k = closing none in
        handed_step sound d k.1.0 k.1.1 k.0 _)

  pub each_step : (c : Call A) → Step makes q e v s c (ask q c s)
  each_step (open_bank p c limit) = open_step p c limit
  each_step (buy b r a) = buy_step b r a
  each_step (give_back r n) = back_step r n
  each_step (reclaim d) = reclaim_step d
  each_step (hand_up d) = hand_up_step d
  each_step stock = stock_step laws sound
