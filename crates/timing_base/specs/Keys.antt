-- The flows of a call. Files and media count from 0; joined files are one, file 0.
use Rattle.std.specs.Prelude.{ℕ, zero, suc, Bool, false, ◌+◌, if◌then◌else◌, List, [], ◌∷◌, ◌++◌, slice_index_or, None}
use Rattle.timing_base.specs.Media.{Media}
use Rattle.timing_base.specs.declared.key.FlowKey.{FlowKey}

-- the key of the flow of a media in a file
abbrev pub key_of : (file media : ℕ) → FlowKey
key_of file media = record { file = file; media = media }

-- the media in place of those past the end of a session
abbrev pub no_media : Media
no_media = record {
  line = 0;
  address = record { bits = 0 };
  port = 0;
  pt = 0;
  width = 0;
  height = 0;
  interlaced = false;
  p = 0;
  q = 0;
  declared = None;
  troff = None;
  cmax = None;
}

-- the media of a flow
abbrev pub media_of : List Media → FlowKey → Media
media_of session key = slice_index_or session key.media no_media

-- the keys of this many media of a file from this one on, in order
abbrev pub keys_of_file : (file media count : ℕ) → List FlowKey
keys_of_file file media zero = []
keys_of_file file media (suc count) = key_of file media ∷ keys_of_file file (media + 1) count

-- the keys of this many files from this one on, by file and then by media
abbrev pub keys_of_files : (first files media_count : ℕ) → List FlowKey
keys_of_files first zero media_count = []
keys_of_files first (suc files) media_count =
    keys_of_file first 0 media_count ++ keys_of_files (first + 1) files media_count

-- the keys of a call: each media of each file, or each media once if the files are joined
abbrev pub keys_of : (joined : Bool) → (files media_count : ℕ) → List FlowKey
keys_of joined files media_count = keys_of_files 0 (if joined then 1 else files) media_count
