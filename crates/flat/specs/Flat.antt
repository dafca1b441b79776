-- Answers as plain numbers, as the panel's functions give them to C and Rust.
use Rattle.std.specs.Prelude.{ℕ, Result, Ok, Err, Option, Some, None}
use Rattle.std.specs.Float.{binary64}
use Rattle.std.specs.Float.Ieee.{of_bits}
use Rattle.table.specs.declared.Refusal.{Refusal}
use Rattle.table.specs.declared.Row.{Row}
use Rattle.table.specs.Table.{Verdict}
use Rattle.planner.specs.declared.Summary.{Summary}
use Rattle.jam.specs.declared.Jam.{Jam}
use Rattle.text.specs.declared.Header.{Header}
use Rattle.area.specs.declared.LinkLoad.{LinkLoad}
use Rattle.flat.specs.declared.PlanAnswer.{PlanAnswer}
use Rattle.flat.specs.declared.ReasonAnswer.{ReasonAnswer}
use Rattle.flat.specs.declared.EditAnswer.{EditAnswer}
use Rattle.flat.specs.declared.RowAnswer.{RowAnswer}
use Rattle.flat.specs.declared.LinkAnswer.{LinkAnswer}
use Rattle.flat.specs.declared.ReadAnswer.{ReadAnswer}
use Rattle.flat.specs.declared.WriteAnswer.{WriteAnswer}
use Rattle.flat.specs.declared.SentenceAnswer.{SentenceAnswer}

-- An answer and its looks as plain numbers: an acceptance has number, row and slot 0, and a refusal has every other
-- figure 0.
unfoldable pub flat_of : Result Summary Refusal → (looks : ℕ) → PlanAnswer
flat_of (Ok s) looks =
    record {
      number = 0;
      row = 0;
      slot = 0;
      last = s.last.0;
      sends = s.sends;
      sum = s.sum;
      looks = looks;
      mean = s.mean;
      share = s.share;
    }
flat_of (Err r) looks =
    record {
      number = r.number;
      row = r.row;
      slot = r.slot.0;
      last = 0;
      sends = 0;
      sum = 0;
      looks = looks;
      mean = of_bits binary64 0;
      share = of_bits binary64 0;
    }

-- What reading comes to as plain numbers: a text that was read has number and line 0, and a refusal has nodes and rows
-- 0, and as its line what it names.
unfoldable pub flat_reading : Result Header Refusal → ReadAnswer
flat_reading (Ok h) = record { number = 0; line = 0; nodes = h.nodes; rows = h.rows }
flat_reading (Err r) = record { number = r.number; line = r.row; nodes = 0; rows = 0 }

-- What writing comes to as plain numbers: a text that was written has number 0, and a refusal has length 0.
unfoldable pub flat_writing : Result ℕ Refusal → WriteAnswer
flat_writing (Ok k) = record { number = 0; length = k }
flat_writing (Err r) = record { number = r.number; length = 0 }

-- A verdict as plain numbers: all are 0 where nothing was refused.
unfoldable pub flat_verdict : Verdict → EditAnswer
flat_verdict (Ok _) = record { number = 0; row = 0; slot = 0 }
flat_verdict (Err r) = record { number = r.number; row = r.row; slot = r.slot.0 }

-- A row that was asked for, as plain numbers: a refusal shows no row.
unfoldable pub flat_entry : Result Row Refusal → RowAnswer
flat_entry (Ok r) = record { number = 0; row = 0; slot = 0; src = r.src; dst = r.dst; len = r.len; due = r.due }
flat_entry (Err r) =
    record { number = r.number; row = r.row; slot = r.slot.0; src = 0; dst = 0; len = 0; due = 0 }

-- Why a table is late, as plain numbers: a jam has number, row and slot 0, none has all 0, and a refusal has every
-- figure 0.
unfoldable pub flat_reason : Result (Option Jam) Refusal → ReasonAnswer
flat_reason (Ok (Some j)) =
    record { number = 0; row = 0; slot = 0; cells = j.cells; link = j.link.0; before = j.before.0 }
flat_reason (Ok None) = record { number = 0; row = 0; slot = 0; cells = 0; link = 0; before = 0 }
flat_reason (Err r) =
    record { number = r.number; row = r.row; slot = r.slot.0; cells = 0; link = 0; before = 0 }

-- A link and its load as plain numbers.
unfoldable pub flat_link : LinkLoad → LinkAnswer
flat_link l = record { link = l.link.0; load = l.load }

-- What writing a sentence or a label comes to, as plain numbers: where it was written all but the length are 0, and a
-- refusal has length 0.
unfoldable pub flat_sentence : Result ℕ Refusal → SentenceAnswer
flat_sentence (Ok k) = record { number = 0; row = 0; slot = 0; length = k }
flat_sentence (Err r) = record { number = r.number; row = r.row; slot = r.slot.0; length = 0 }
