use Rattle.std.proofs.Common.{◌≡◌, ℕ, ◌*◌, ◌/◌, ◌%◌, eqb, bit_and, sym, ap, ◌∙◌, arith, eq-eqb, ne_eqb}
use Rattle.std.proofs.lemmas.Nat.Bits.{and_pow}
use mathlib.Core.Logic.{dite}
use native.Mathlib.Decide.{ℕ_discrete}
use Rattle.proc_table.specs.declared.Mode.{Mode}
use Rattle.lw_core.specs.Words.{is_free}
use Rattle.lwlock.proofs.attempt.is_free_for.Goals as goal

-- a word has the exclusive bit where its masked part isn't 0
exclusive_bit : (w : ℕ) → eqb (bit_and w 16777216) 0 ≡ eqb ((w / 16777216) % 2) 0
exclusive_bit w = let masked : bit_and w 16777216 ≡ (w / 16777216) % 2 * 16777216 = and_pow w 24 in dite (ℕ_discrete ((w / 16777216) % 2) 0)
    (λ none. eq-eqb (bit_and w 16777216) 0 (omega arith) ∙ sym (eq-eqb ((w / 16777216) % 2) 0 none))
    (λ some. ne_eqb (bit_and w 16777216) 0 (λ e. some (omega arith)) ∙ sym (ne_eqb ((w / 16777216) % 2) 0 some))

pub returns-in-Shared : goal.returns-in-Shared
returns-in-Shared c = exclusive_bit c.args.word ∙ ap (λ (m : Mode). is_free m c.args.word) (sym c.in-Shared.is)
