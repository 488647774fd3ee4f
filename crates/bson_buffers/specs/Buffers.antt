-- The buffers that a caller gives, and what a call did with them. Source: this library's own calls with buffers.
use Rattle.std.specs.Prelude.{◌≡◌, ◌<◌, ◌≤◌, ℕ, min, [], ◌++◌, length, take, drop}
use Rattle.bson_kinds.specs.Text.{Bytes, Utf8}
use Rattle.bson_buffers.specs.declared.report.Report.{Report}

-- the bytes of a buffer before and after a call
pub record Buffer : Type 0 where
  pub before : Bytes
  pub after : Bytes

-- What a call did: the numbers of its report, the buffer for its output and the buffer for its text.
pub record Call : Type 0 where
  pub place : ℕ
  pub written : ℕ
  pub needed : ℕ
  pub text_written : ℕ
  pub text_needed : ℕ
  pub buffer : Buffer
  pub text : Buffer

-- what a call did, by its report and the bytes of both buffers before and after it
abbrev pub call_of : Report → (buffer_before buffer_after text_before text_after : Bytes) → Call
call_of a buffer_before buffer_after text_before text_after = record {
  place = a.place;
  written = a.written;
  needed = a.needed;
  text_written = a.text_written;
  text_needed = a.text_needed;
  buffer = record { before = buffer_before; after = buffer_after };
  text = record { before = text_before; after = text_after };
}

-- The output fits in its buffer and is at the front of it; the bytes behind it are as they were.
pub record Writes (c : Call) (output : Bytes) : Type 0 where
  pub fits : length output ≤ length c.buffer.before
  pub put : c.buffer.after ≡ output ++ drop (length output) c.buffer.before
  pub written : c.written ≡ length output
  pub needed : c.needed ≡ length output

-- The output takes more bytes than its buffer has, and the buffer is as it was.
pub record LacksSpace (c : Call) (output : Bytes) : Type 0 where
  pub larger : length c.buffer.before < length output
  pub kept : c.buffer.after ≡ c.buffer.before
  pub written : c.written ≡ 0
  pub needed : c.needed ≡ length output

-- As many first bytes of what is said as fit are at the front of the buffer for the text; the bytes behind them are as they were.
pub record Tells (c : Call) (said : Utf8) : Type 0 where
  pub put : c.text.after ≡ take (length c.text.before) said ++ drop (length said) c.text.before
  pub written : c.text_written ≡ min (length said) (length c.text.before)
  pub needed : c.text_needed ≡ length said

-- Both buffers are as they were, and the numbers of the report are 0.
pub record IsSilent (c : Call) : Type 0 where
  pub no_place : c.place ≡ 0
  pub no_output : Writes c []
  pub no_text : Tells c []
