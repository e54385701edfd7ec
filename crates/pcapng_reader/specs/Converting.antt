-- The classic form from a place within a block on: it depends on the bytes that follow, and on what was read of the
-- block. If the file ends within the block, or its second total length isn't the first, nothing else matters.
use Rattle.std.specs.Prelude.{ℕ, ◌+◌, ◌-◌, ◌*◌, ◌^◌, ◌<◌, ◌≤◌, ◌==◌, nat_lt, not, ◌||◌, if◌then◌else◌, List, [], ◌++◌}
use Rattle.std.specs.Prelude.{length, take, drop, slice_index, Option, Some, None, ⊤}
use Rattle.std.specs.Option.{option_map_or, unwrap_or}
use Rattle.std.specs.List.{list_all}
use Rattle.pcap_reader.specs.WrittenHeads.{record_head}
use Rattle.pcapng_reader.specs.declared.block.Order.{Order}
use Rattle.pcapng_reader.specs.declared.block.Kind.{Kind}
use Rattle.pcapng_reader.specs.declared.block.Interface.{Interface}
use Rattle.pcapng_reader.specs.declared.packet.Fate.{Fate}
use Rattle.pcapng_reader.specs.declared.packet.Fate.TheVariants as fate
use Rattle.pcapng_reader.specs.declared.stage.Body.{Body}
use Rattle.pcapng_reader.specs.declared.stage.Found.{Found}
use Rattle.pcapng_reader.specs.declared.stage.Content.{Content}
use Rattle.pcapng_reader.specs.declared.stage.Content.TheVariants as content
use Rattle.pcapng_reader.specs.Classic.{number, Section, Given, cut, broken, late, gives, BlockOption, is_formed}
use Rattle.pcapng_reader.specs.Classic.{first_value, options, add_interface, nanos, is_late, sized_block, go_on, blocks}

-- the contents of an interface description with this option added, if it has the right length; of several options of
-- one kind the first counts
abbrev pub found_with : Order → BlockOption → Found → Option Found
found_with order o found =
    if o.code == 9 then
    (if length o.value == 1 then Some (record {
      offset = found.offset;
      link = found.link;
      resolution = Some (unwrap_or found.resolution (slice_index o.value 0));
    })
    else None)
    else if o.code == 14 then
    (if length o.value == 8 then Some (record {
      offset = Some (unwrap_or found.offset (number order 8 0 o.value));
      link = found.link;
      resolution = found.resolution;
    })
    else None)
    else Some found

-- the interface, if no option is left
abbrev pub found_interface : Found → Interface
found_interface found = record {
  offset = unwrap_or found.offset 0;
  link = found.link;
  resolution = unwrap_or found.resolution 6;
}

-- the interface, if these options are left; none, if one of them is malformed
abbrev pub found_by : Order → Found → Option (List BlockOption) → Option Interface
found_by order found None = None
found_by order found (Some os) =
    if list_all is_formed os then Some (record {
      offset = unwrap_or found.offset (option_map_or (number order 8 0) (first_value 14 os) 0);
      link = found.link;
      resolution = unwrap_or found.resolution
          (option_map_or (λ value. slice_index value 0) (first_value 9 os) 6);
    })
    else None

-- the result of the start of a packet block of `total` bytes, with its interface if the section has that
abbrev pub fate_by : Option Interface → Order → (total : ℕ) → (head : List ℕ) → Fate
fate_by None order total head = fate.Broken
fate_by (Some i) order total head =
    let stamp = number order 4 12 head * 2 ^ 32 + number order 4 16 head in
    let captured = number order 4 20 head in
    if nat_lt 262144 captured || nat_lt (total - 4) (28 + captured) then fate.Broken
    else if is_late i stamp then fate.Late
    else fate.Record (nanos i stamp) (if i.link == 1 then captured else 0)

-- a packet record is within its limits, and its data are within the block
abbrev pub IsFate : (total : ℕ) → Fate → Type 0
IsFate total fate.Broken = ⊤
IsFate total fate.Late = ⊤
IsFate total (fate.Record at len) = (at < 2 ^ 32 * 10 ^ 9) × (len ≤ 262144) × (32 + len ≤ total)

-- what a packet block with this result gives
abbrev pub fate_given : Fate → Section → (block : List ℕ) → Given
fate_given fate.Broken section block = broken
fate_given fate.Late section block = late
fate_given (fate.Record at len) section block =
    gives (record_head at len ++ take len (drop 28 block)) section

-- what a complete block with this result gives, if these bytes are kept
abbrev pub content_given : Content → Order → (kept : List ℕ) → Section → Given
content_given content.Broken order kept section = broken
content_given content.Late order kept section = late
content_given content.Section order kept section = gives [] (record { order = order; interfaces = [] })
content_given (content.Interface i) order kept section = add_interface section (Some i)
content_given content.Record order kept section = gives kept section
content_given content.Nothing order kept section = gives [] section

-- what a block gives, if these bytes follow: it may be truncated, or its second total length may be another
abbrev pub closing : Body → List ℕ → Given → Given
closing body ahead given =
    if nat_lt (length ahead) (body.left + 4) then cut
    else if not (number body.order 4 body.left ahead == body.total) then broken
    else given

-- the classic form from within a block on, if that block gives this when complete
unfoldable pub after : Body → List ℕ → Given → List ℕ
after body ahead given =
    go_on (λ next. blocks next (drop (body.left + 4) ahead)) (closing body ahead given)

-- the classic form from a block on, of this byte order, kind and total length
unfoldable pub head_text : Order → Kind → (total : ℕ) → Section → List ℕ → List ℕ
head_text order kind total section ahead =
    go_on (λ next. blocks next (drop total ahead)) (sized_block order kind total section ahead)

-- the classic form from an option of an interface description on
unfoldable pub options_text : Body → Found → Section → List ℕ → List ℕ
options_text body found section ahead =
    after body ahead (add_interface section (found_by body.order found (options body.order (take body.left ahead))))
