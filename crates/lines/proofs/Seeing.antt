-- What `item_at` sees at the front of a text.
--     no_key, too_great, not_canonical, no_end, other_end, good_line   by the key, the digits and the byte behind them
--     key_inside, figures_inside, seen_great, seen_other, seen_no_end, seen_other_end, seen_good   by what `starts_with`,
--     `figures_at` and `width_of` answer
-- Assumes nothing.
use mathlib.Core.Path.{◌≡◌, refl, ◌∙◌, ap, sym}
use mathlib.Core.Bool.{Bool, true, false, ◌&&◌, and-false}
use mathlib.Core.List.{List, [], ◌∷◌, ◌++◌, append_assoc}
use Prim.Native.Nat.{ℕ, ◌+◌, ◌-◌, ◌≤◌, ◌<◌}
use native.Mathlib.Omega.{arith}
use borrow.Author.Tests.{le-leb, lt-leb, eq-eqb, ne_eqb}
use lib.ListN.{length, get_or, take, drop, drop_of_length-le, length-drop, length-append}
use lib.Seq.{drop-cons, drop-drop}
use Rattle.text.specs.Text.{width, numeral, item, starts, is_digit, digits_at, extended, item_value, item_good}
use Rattle.text.proofs.Numeral.{numeral-length, numeral_digits, numeral_again, width_most, digits_read, digits_are}
use Rattle.text.proofs.Numeral.{digits_stand}
use Rattle.text.proofs.Front.{starts_self, starts_true, starts_join}
use Rattle.text.proofs.Lines.{item-length}
use Rattle.lines.specs.declared.Figures.{Figures}
use Rattle.std.proofs.Common.{Some, None}
use Rattle.std.proofs.lemmas.List.{take_rest}
use Rattle.lines.specs.Items.{item_seen, figures_in}

-- As `item_at` looks: the key, the digits, and the byte behind them.
module _ (key : List ℕ) (mark : ℕ) (text : List ℕ) where
  abbrev here : List ℕ
  here = drop (length key) text

  abbrev figures : List ℕ
  figures = digits_at 5 here

  wrong : item_good key mark text ≡ false → None ≡ item_seen key mark text
  unfolding item_seen
  wrong e = rw e

  parted : starts (item key (item_value key text) mark) text ≡ starts key text && starts
      (numeral (item_value key text) ++ (mark ∷ [])) here
  parted = starts_join key (numeral (item_value key text) ++ (mark ∷ [])) text

  pub no_key : starts key text ≡ false → None ≡ item_seen key mark text
  unfolding item_good
  no_key e = wrong (rw (parted, e, and-false))

  pub too_great : 65535 < extended 0 figures → None ≡ item_seen key mark text
  unfolding item_good item_value
  too_great h = wrong (rw (lt-leb (extended 0 figures) 65535 h))

  -- a numeral and a mark that stand there are the digits that stand there
  seen_digits : is_digit mark ≡ false → starts (numeral (extended 0 figures) ++ (mark ∷ [])) here ≡ true
      → figures ≡ numeral (extended 0 figures)
  seen_digits no_digit e =
      let v = extended 0 figures in
      let so : here ≡ numeral v ++ (mark ∷ drop (length (numeral v ++ (mark ∷ []))) here) =
      starts_true (numeral v ++ (mark ∷ [])) here e ∙ simp append_assoc in
      ap (digits_at 5) so ∙ digits_read 5 (numeral v) mark (drop (length (numeral v ++ (mark ∷ []))) here) no_digit
      (numeral_digits v) (rw (numeral-length v) (width_most v))

  pub not_canonical : is_digit mark ≡ false → (length figures ≡ width (extended 0 figures) → ⊥)
      → None ≡ item_seen key mark text
  unfolding item_good item_value
  not_canonical no_digit d = go (starts (numeral (extended 0 figures) ++ (mark ∷ [])) here) refl
    where
      go : (b : Bool) → starts (numeral (extended 0 figures) ++ (mark ∷ [])) here ≡ b
          → None ≡ item_seen key mark text
      go true e = absurd (d (ap length (seen_digits no_digit e) ∙ numeral-length (extended 0 figures)))
      go false e = wrong (rw (parted, e, and-false, and-false))

  module _ (canonical : length figures ≡ width (extended 0 figures)) where
    judged : starts (numeral (extended 0 figures) ++ (mark ∷ [])) here ≡ starts (mark ∷ []) (drop (length figures) here)
    judged =
        rw (
          numeral_again figures (digits_are 5 here) canonical,
          starts_join figures (mark ∷ []) here,
          ap (starts figures) (digits_stand 5 here),
          starts_self,
        )

    abbrev next : ℕ
    next = length key + length figures

    place : drop (length figures) here ≡ drop next text
    place = drop-drop (length figures) (length key) text

    pub no_end : length text ≤ next → None ≡ item_seen key mark text
    unfolding item_good item_value starts
    no_end h = wrong (rw (parted, judged, place, drop_of_length-le text h, and-false, and-false))

    module _ (inside : next < length text) where
      pub other_end : (get_or text next 0 ≡ mark → ⊥) → None ≡ item_seen key mark text
      unfolding item_good item_value starts
      other_end d =
          wrong (rw (
            parted,
            judged,
            place,
            drop-cons text next 0 inside,
            ne_eqb mark (get_or text next 0) (λ e. d (sym e)),
            and-false,
            and-false,
          ))

      is_good : starts key text ≡ true → extended 0 figures ≤ 65535 → get_or text next 0 ≡ mark
          → item_good key mark text ≡ true
      unfolding item_good item_value starts
      is_good e h f =
          rw (
            le-leb (extended 0 figures) 65535 h,
            parted,
            e,
            judged,
            place,
            drop-cons text next 0 inside,
            f,
            eq-eqb mark mark refl,
          )

      pub good_line : starts key text ≡ true → extended 0 figures ≤ 65535 → get_or text next 0 ≡ mark
          → Some (record { value = extended 0 figures; length = next + 1 }) ≡ item_seen key mark text
      unfolding item_seen item_value
      good_line e h f =
          let past : next + 1 ≡ length (item key (extended 0 figures) mark) =
          omega (arith, item-length key (extended 0 figures) mark, canonical) in
          rw (is_good e h f, past)

-- The same of what `starts_with`, `figures_at` and `width_of` answer.
pub key_inside : (key text : List ℕ) → starts key text ≡ true → length key ≤ length text
key_inside key text e = omega (arith, ap length (starts_true key text e), length-append key (drop (length key) text))

module _ (key : List ℕ) (mark : ℕ) (text : List ℕ) (f : Figures) (read : f ≡ figures_in (take (length text - length key) (drop (length key) text))) where
  value_is : f.value ≡ extended 0 (figures key mark text)
  unfolding figures_in
  value_is = ap (λ (g : Figures). g.value) read ∙ rw (take_rest text (length key))

  count_is : f.count ≡ length (figures key mark text)
  unfolding figures_in
  count_is = ap (λ (g : Figures). g.count) read ∙ rw (take_rest text (length key))

  pub figures_inside : length key ≤ length text → length key + f.count ≤ length text
  figures_inside h =
      let here_is = here key mark text in
      let so : length here_is ≡ length (figures key mark text) + length
      (drop (length (figures key mark text)) here_is) = ap length (digits_stand 5 here_is)
      ∙ length-append (figures key mark text) (drop (length (figures key mark text)) here_is) in
      omega (arith, count_is, length-drop (length key) text)

  pub seen_great : 65535 < f.value → None ≡ item_seen key mark text
  seen_great h = too_great key mark text (rw value_is at h)

  module _ (w : ℕ) (wide : w ≡ width f.value) where
    pub seen_other : is_digit mark ≡ false → (f.count ≡ w → ⊥) → None ≡ item_seen key mark text
    seen_other no_digit d =
        not_canonical key mark text no_digit (λ e. d (count_is ∙ e ∙ ap width (sym value_is) ∙ sym wide))

    module _ (same : f.count ≡ w) where
      canonical : length (figures key mark text) ≡ width (extended 0 (figures key mark text))
      canonical = sym count_is ∙ same ∙ wide ∙ ap width value_is

      pub seen_no_end : length text ≤ length key + f.count → None ≡ item_seen key mark text
      seen_no_end h = no_end key mark text canonical (rw count_is at h)

      module _ (inside : length key + f.count < length text) where
        pub seen_other_end : (get_or text (length key + f.count) 0 ≡ mark → ⊥) → None ≡ item_seen key mark text
        seen_other_end d = other_end key mark text canonical (rw count_is at inside) (rw count_is at d)

        pub seen_good : starts key text ≡ true → f.value ≤ 65535
            → get_or text (length key + f.count) 0 ≡ mark
            → Some (record { value = f.value; length = length key + f.count + 1 }) ≡ item_seen key mark text
        seen_good e h b =
            rw (value_is, count_is) (good_line key mark text canonical (rw count_is at inside) e (rw value_is at h)
            (rw count_is at b))
